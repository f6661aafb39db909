use Rattle.std.proofs.lemmas.Result.{err_from_is_err_and}
use Rattle.aqe_reader.proofs.Cases.{absent_read, operand_read, operand_refused}
use Rattle.aqe_reader.proofs.case.operand.Goals as goal

pub returns-in-Some : goal.returns-in-Some
returns-in-Some g c = absent_read c.in-Some.ensures

pub returns-in_err-value : goal.returns-in_err-value
returns-in_err-value g c = let p = err_from_is_err_and c.from_residual.result c.from_residual.ensures.1 in rw (p.1, p.2) (λ r. operand_refused c.in_default.ensures (c.in_err-value.ensures r))

pub returns : goal.returns
returns g c = operand_read c.in_default.ensures c.in_ok-value.ensures
