use Rattle.std.proofs.lemmas.Result.{err_from_is_err_and}
use Rattle.aqe_syntax.proofs.PartReadings.{unordered_read, ordered_read, order_by_refused, order_refused}
use Rattle.aqe_syntax.proofs.parts.order.Goals as goal

pub returns-in_default : goal.returns-in_default
returns-in_default c = rw c.new.ensures (unordered_read c.in_default.ensures)

pub returns-in_err-after : goal.returns-in_err-after
returns-in_err-after c = let p = err_from_is_err_and c.from_residual.result c.from_residual.ensures.1 in rw (p.1, p.2) (λ r. order_by_refused c.in-Some.ensures (c.in_err-after.ensures r))

pub returns-in_err-sorts : goal.returns-in_err-sorts
returns-in_err-sorts c = let p = err_from_is_err_and c.from_residual-in_err-sorts.result c.from_residual-in_err-sorts.ensures.1 in rw (p.1, p.2) (λ r. order_refused c.in-Some.ensures c.in_ok-after.ensures (c.in_err-sorts.ensures r))

pub returns : goal.returns
returns c = ordered_read c.in-Some.ensures c.in_ok-after.ensures c.in_ok-sorts.ensures
