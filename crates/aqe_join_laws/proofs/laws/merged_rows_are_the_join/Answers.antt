use Rattle.aqe_join_laws.proofs.Orders.{merged}
use Rattle.aqe_join_laws.proofs.laws.merged_rows_are_the_join.Goals as goal

pub returns : goal.returns
returns c = merged
