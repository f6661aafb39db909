use Rattle.std.proofs.lemmas.Result.{err_from_is_err_and}
use Rattle.aqe_syntax.proofs.TableReadings.{late_whole, late_refused, late_open_refused, late_options_refused, late_end_refused, late_more_refused, late_none, emptied, not_emptied}
use Rattle.aqe_syntax.proofs.tables.late_options.Goals as goal

pub returns-then-is_empty : goal.returns-then-is_empty
returns-then-is_empty c = late_none c.new.ensures (emptied _ c.is_empty.ensures c.if-is_empty.true)

pub returns-in_err-open : goal.returns-in_err-open
returns-in_err-open c = let p = err_from_is_err_and c.from_residual.result c.from_residual.ensures.1 in rw (p.1, p.2) (λ r. late_refused (not_emptied _ c.is_empty.ensures c.if-is_empty.false) (c.in_err-open.ensures r))

pub returns-in_err-inside : goal.returns-in_err-inside
returns-in_err-inside c = let p = err_from_is_err_and c.from_residual-in_err-inside.result c.from_residual-in_err-inside.ensures.1 in rw (p.1, p.2) (λ r. late_open_refused c.in_ok-open.ensures (c.in_err-inside.ensures r))

pub returns-in_err-options : goal.returns-in_err-options
returns-in_err-options c = let p = err_from_is_err_and c.from_residual-in_err-options.result c.from_residual-in_err-options.ensures.1 in rw (p.1, p.2) (λ r. late_options_refused c.in_ok-open.ensures c.in_ok-inside.ensures (c.in_err-options.ensures r))

pub returns-in_err-rest : goal.returns-in_err-rest
returns-in_err-rest c = let p = err_from_is_err_and c.from_residual-in_err-rest.result c.from_residual-in_err-rest.ensures.1 in rw (p.1, p.2) (λ r. late_end_refused c.in_ok-open.ensures c.in_ok-inside.ensures c.in_ok-options.ensures (c.in_err-rest.ensures r))

pub returns-then-is_empty-2 : goal.returns-then-is_empty-2
returns-then-is_empty-2 c = late_whole c.in_ok-open.ensures c.in_ok-inside.ensures c.in_ok-options.ensures c.in_ok-rest.ensures (emptied _ c.is_empty-2.ensures c.if-is_empty-2.true)

pub returns-else-is_empty-2 : goal.returns-else-is_empty-2
returns-else-is_empty-2 c = λ r. late_more_refused c.in_ok-open.ensures c.in_ok-inside.ensures c.in_ok-options.ensures c.in_ok-rest.ensures (not_emptied _ c.is_empty-2.ensures c.if-is_empty-2.false)
