use Rattle.aqe_reader.proofs.Predicates.{is_read, is_refused}
use Rattle.aqe_reader.proofs.predicate.is.Goals as goal

pub returns-in_ok-new-in-Some : goal.returns-in_ok-new-in-Some
returns-in_ok-new-in-Some c = let h = c.in-Some.ensures in rw c.in_ok-new-in-Some.ensures (is_read c.negation-negated.result.0 c.negation-negated.ensures h.1 h.2)

pub returns-in-None : goal.returns-in-None
returns-in-None c = λ r. is_refused c.negation-negated.result.0 c.negation-negated.ensures c.in-None.ensures
