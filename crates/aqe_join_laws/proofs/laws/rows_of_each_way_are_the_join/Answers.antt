use Rattle.aqe_join_laws.proofs.Orders.{each_way}
use Rattle.aqe_join_laws.proofs.laws.rows_of_each_way_are_the_join.Goals as goal

pub returns : goal.returns
returns c = each_way
