use Rattle.aqe_places.proofs.Ranges.{sorted_parts_are}
use Rattle.aqe_places.proofs.laws.sorted_parts_are_sorted.Goals as goal

pub returns : goal.returns
returns c = sorted_parts_are
