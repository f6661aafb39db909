use Rattle.aqe_join_laws.proofs.Orders.{from_the_right}
use Rattle.aqe_join_laws.proofs.laws.rows_from_the_right_are_the_join.Goals as goal

pub returns : goal.returns
returns c = from_the_right
