use Rattle.std.proofs.lemmas.Result.{err_from_is_err_and}
use Rattle.aqe_reader.proofs.Operands.{as_type_read, as_refused, type_refused, type_close_refused}
use Rattle.aqe_reader.proofs.primary.as_type.Goals as goal

pub returns-in_err-after : goal.returns-in_err-after
returns-in_err-after c = let p = err_from_is_err_and c.from_residual.result c.from_residual.ensures.1 in rw (p.1, p.2) (λ r. as_refused (c.in_err-after.ensures r))

pub returns-in_default : goal.returns-in_default
returns-in_default c = λ r. type_refused c.in_ok-after.ensures c.in_default.ensures

pub returns-in_err-left : goal.returns-in_err-left
returns-in_err-left c = let p = err_from_is_err_and c.from_residual-in_err-left.result c.from_residual-in_err-left.ensures.1 in rw (p.1, p.2) (λ r. type_close_refused c.in_ok-after.ensures c.in-Some.ensures.1 (c.in_err-left.ensures r))

pub returns : goal.returns
returns c = as_type_read c.in_ok-after.ensures c.in-Some.ensures c.in_ok-left.ensures
