use Rattle.aqe_spell.proofs.Queries.{bound_spelled, no_bound_spelled}
use Rattle.aqe_spell.proofs.query_leaf.bound.Goals as goal

pub returns-in_ok-number-in-Some : goal.returns-in_ok-number-in-Some
returns-in_ok-number-in-Some c = rw c.in-Some.is (bound_spelled c.in_ok-fixed-in-Some.ensures c.in_ok-number-in-Some.ensures)

pub returns-in-None : goal.returns-in-None
returns-in-None c = rw c.in-None.is no_bound_spelled
