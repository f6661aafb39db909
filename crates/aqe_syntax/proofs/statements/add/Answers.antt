use Rattle.std.proofs.Common.{refl}
use Rattle.aqe_syntax.proofs.SentenceReadings.{part_refused, nothing_added, one_added}
use Rattle.aqe_syntax.proofs.TableReadings.{emptied, not_emptied}
use Rattle.std.proofs.lemmas.Result.{err_from_is_err_and}
use Rattle.aqe_syntax.proofs.statements.add.Goals as goal

pub returns-then-is_empty : goal.returns-then-is_empty
returns-then-is_empty c = nothing_added _ (emptied _ c.is_empty.ensures c.if-is_empty.true) refl

pub returns-in_err-one : goal.returns-in_err-one
returns-in_err-one c = let p = err_from_is_err_and c.from_residual.result c.from_residual.ensures.1 in rw (p.1, p.2) (λ r. part_refused (not_emptied _ c.is_empty.ensures c.if-is_empty.false) (c.in_err-one.ensures r))

pub returns : goal.returns
returns c = one_added _ (not_emptied _ c.is_empty.ensures c.if-is_empty.false) c.in_ok-one.ensures c.in_ok-push.ensures
