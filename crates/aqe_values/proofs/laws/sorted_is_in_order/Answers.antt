use Rattle.aqe_values.proofs.Sortedness.{sorted_is}
use Rattle.aqe_values.proofs.laws.sorted_is_in_order.Goals as goal

pub returns : goal.returns
returns c = sorted_is
