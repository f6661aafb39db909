use Rattle.aqe_reader.proofs.Predicates.{plain_read, negated_refused}
use Rattle.aqe_reader.proofs.predicate.test.Goals as goal

pub returns-in_ok-new-in-None : goal.returns-in_ok-new-in-None
returns-in_ok-new-in-None g c = rw c.in_ok-new-in-None.ensures (plain_read c.negation-negated.result.0 c.negation-negated.ensures c.in_default.ensures c.in_default-eat.ensures c.in_default-eat-2.ensures c.in-None.ensures)

pub returns-then-negated : goal.returns-then-negated
returns-then-negated g c = λ r. negated_refused c.negation-negated.result.0 c.if-negated.true c.negation-negated.ensures c.in_default.ensures c.in_default-eat.ensures c.in_default-eat-2.ensures
