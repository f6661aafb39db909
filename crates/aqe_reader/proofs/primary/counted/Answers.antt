use Rattle.std.proofs.lemmas.Result.{err_from_is_err_and}
use Rattle.aqe_reader.proofs.Operands.{all_read, all_refused}
use Rattle.aqe_reader.proofs.primary.counted.Goals as goal

pub returns-in_err-left : goal.returns-in_err-left
returns-in_err-left c = let p = err_from_is_err_and c.from_residual.result c.from_residual.ensures.1 in rw (p.1, p.2) (λ r. all_refused (c.in_err-left.ensures r))

pub returns : goal.returns
returns c = all_read c.requires c.in_ok-left.ensures
