use Rattle.aqe_places.proofs.OneOrder.{sorted_is}
use Rattle.aqe_places.proofs.laws.sorted_and_stable_is_the_sort.Goals as goal

pub returns : goal.returns
returns c = sorted_is
