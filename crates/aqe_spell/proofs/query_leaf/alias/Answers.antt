use Rattle.aqe_spell.proofs.Queries.{alias_spelled, no_alias_spelled}
use Rattle.aqe_spell.proofs.query_leaf.alias.Goals as goal

pub returns-in_ok-name-in-Some : goal.returns-in_ok-name-in-Some
returns-in_ok-name-in-Some c = rw c.in-Some.is (alias_spelled c.in_ok-fixed-in-Some.ensures c.in_ok-name-in-Some.ensures)

pub returns-in-None : goal.returns-in-None
returns-in-None c = rw c.in-None.is no_alias_spelled
