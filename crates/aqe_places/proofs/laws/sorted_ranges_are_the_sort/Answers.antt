use Rattle.aqe_places.proofs.Ranges.{ranges_are}
use Rattle.aqe_places.proofs.laws.sorted_ranges_are_the_sort.Goals as goal

pub returns : goal.returns
returns c = ranges_are
