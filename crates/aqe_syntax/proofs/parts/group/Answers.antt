use Rattle.std.proofs.lemmas.Result.{err_from_is_err_and}
use Rattle.aqe_syntax.proofs.PartReadings.{ungrouped_read, grouped_read, group_by_refused, group_refused}
use Rattle.aqe_syntax.proofs.parts.group.Goals as goal

pub returns-in_default : goal.returns-in_default
returns-in_default c = rw c.new.ensures (ungrouped_read c.in_default.ensures)

pub returns-in_err-after : goal.returns-in_err-after
returns-in_err-after c = let p = err_from_is_err_and c.from_residual.result c.from_residual.ensures.1 in rw (p.1, p.2) (λ r. group_by_refused c.in-Some.ensures (c.in_err-after.ensures r))

pub returns-in_err-keys : goal.returns-in_err-keys
returns-in_err-keys c = let p = err_from_is_err_and c.from_residual-in_err-keys.result c.from_residual-in_err-keys.ensures.1 in rw (p.1, p.2) (λ r. group_refused c.in-Some.ensures c.in_ok-after.ensures (c.in_err-keys.ensures r))

pub returns : goal.returns
returns c = grouped_read c.in-Some.ensures c.in_ok-after.ensures c.in_ok-keys.ensures
