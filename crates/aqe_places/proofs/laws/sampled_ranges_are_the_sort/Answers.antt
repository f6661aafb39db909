use Rattle.aqe_places.proofs.Ranges.{sampled_ranges_are}
use Rattle.aqe_places.proofs.laws.sampled_ranges_are_the_sort.Goals as goal

pub returns : goal.returns
returns c = sampled_ranges_are
