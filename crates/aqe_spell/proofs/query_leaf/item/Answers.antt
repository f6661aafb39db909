use Rattle.aqe_spell.proofs.Queries.{star_spelled, table_star_spelled, item_spelled}
use Rattle.aqe_spell.proofs.query_leaf.item.Goals as goal

pub returns-in_ok-fixed-in-All : goal.returns-in_ok-fixed-in-All
returns-in_ok-fixed-in-All c = rw c.in-All.is (star_spelled c.in_ok-fixed-in-All.ensures)

pub returns-in_ok-fixed-in-AllOf-2 : goal.returns-in_ok-fixed-in-AllOf-2
returns-in_ok-fixed-in-AllOf-2 c = rw c.in-AllOf.is (table_star_spelled c.in_ok-name-in-AllOf.ensures c.in_ok-fixed-in-AllOf.ensures c.in_ok-fixed-in-AllOf-2.ensures)

pub returns-in_ok-alias-in-One : goal.returns-in_ok-alias-in-One
returns-in_ok-alias-in-One c = rw c.in-One.is (item_spelled c.in_ok-or-in-One.ensures c.in_ok-alias-in-One.ensures)
