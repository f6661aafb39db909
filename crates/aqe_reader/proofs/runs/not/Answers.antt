use Rattle.std.proofs.lemmas.Result.{err_from_is_err_and}
use Rattle.aqe_reader.proofs.RunFacts.{not_read, not_refused}
use Rattle.aqe_reader.proofs.runs.not.Goals as goal

pub returns-in_err-operand : goal.returns-in_err-operand
returns-in_err-operand g c = let p = err_from_is_err_and c.from_residual.result c.from_residual.ensures.1 in rw (p.1, p.2) (λ r. not_refused c.nots-count.ensures.left c.nots-count.ensures.all (c.in_err-operand.ensures r))

pub returns : goal.returns
returns g c = rw c.in_ok-not_of.ensures (not_read c.nots-count.ensures.left c.nots-count.ensures.all c.in_ok-operand.ensures)
