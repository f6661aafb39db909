use Rattle.aqe_script.specs.Statements.{set}
use Rattle.aqe_syntax.proofs.SentenceReadings.{statement_answer, set_refused, no_set}
use Rattle.aqe_syntax.proofs.statements.statement.Goals as goal

pub returns-in-Ok : goal.returns-in-Ok
returns-in-Ok c = set c.in-Ok.ensures

pub returns-in-Err : goal.returns-in-Err
returns-in-Err c = λ r. set_refused (c.begins_set.ensures.0 c.if-begins_set.true) (c.in-Err.ensures (c.read_fault.ensures r))

pub returns : goal.returns
returns c = statement_answer _ (rw c.as_slice.ensures c.in_ok-terminals.ensures) (no_set (λ b. let e = c.begins_set.ensures.1 b in let f = c.if-begins_set.false in cc)) c.sentence.ensures
