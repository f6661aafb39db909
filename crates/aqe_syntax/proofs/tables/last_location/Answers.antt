use Rattle.std.proofs.lemmas.Result.{err_from_is_err_and}
use Rattle.aqe_syntax.proofs.TableReadings.{last_location_read, last_close_refused, last_location_refused, more_behind_refused, emptied, not_emptied}
use Rattle.aqe_syntax.proofs.tables.last_location.Goals as goal

pub returns-in_err-after : goal.returns-in_err-after
returns-in_err-after c = let p = err_from_is_err_and c.from_residual.result c.from_residual.ensures.1 in rw (p.1, p.2) (λ r. last_close_refused (c.in_err-after.ensures r))

pub returns-in_err-text : goal.returns-in_err-text
returns-in_err-text c = let p = err_from_is_err_and c.from_residual-in_err-text.result c.from_residual-in_err-text.ensures.1 in rw (p.1, p.2) (λ r. last_location_refused c.in_ok-after.ensures (c.in_err-text.ensures r))

pub returns-then-is_empty : goal.returns-then-is_empty
returns-then-is_empty c = last_location_read c.in_ok-after.ensures c.in_ok-text.ensures (emptied _ c.is_empty.ensures c.if-is_empty.true)

pub returns-else-is_empty : goal.returns-else-is_empty
returns-else-is_empty c = λ r. more_behind_refused c.in_ok-after.ensures c.in_ok-text.ensures (not_emptied _ c.is_empty.ensures c.if-is_empty.false)
