use Rattle.aqe_spell.proofs.Queries.{clause_spelled, no_clause_spelled}
use Rattle.aqe_spell.proofs.query_leaf.clause.Goals as goal

pub returns-in_ok-or-in-Some : goal.returns-in_ok-or-in-Some
returns-in_ok-or-in-Some c = rw c.in-Some.is (clause_spelled c.in_ok-fixed-in-Some.ensures c.in_ok-or-in-Some.ensures)

pub returns-in-None : goal.returns-in-None
returns-in-None c = rw c.in-None.is no_clause_spelled
