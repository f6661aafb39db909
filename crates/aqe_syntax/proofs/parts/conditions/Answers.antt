use Rattle.std.proofs.Common.{ap}
use Rattle.std.proofs.lemmas.Result.{err_from_is_err_and}
use Rattle.aqe_reader.proofs.Outcomes.{ok_of, err_of}
use Rattle.aqe_syntax.proofs.Rules.{conditions_read, filter_refused, keys_refused, having_refused}
use Rattle.aqe_syntax.proofs.parts.conditions.Goals as goal

pub returns-in_err-filter : goal.returns-in_err-filter
returns-in_err-filter c = let p = err_from_is_err_and c.from_residual.result c.from_residual.ensures.1 in rw (p.1, p.2) (λ r. filter_refused (c.in_err-filter.ensures r))

pub returns-in_err-filter-2 : goal.returns-in_err-filter-2
returns-in_err-filter-2 c = let p = err_from_is_err_and c.from_residual-in_err-filter-2.result c.from_residual-in_err-filter-2.ensures.1 in rw (p.1, p.2) (λ r. keys_refused c.in_ok-filter.ensures (err_of _ _ c.group.ensures c.in_err-filter-2.ensures r))

pub returns-in_err-filter-3 : goal.returns-in_err-filter-3
returns-in_err-filter-3 c = let p = err_from_is_err_and c.from_residual-in_err-filter-3.result c.from_residual-in_err-filter-3.ensures.1 in rw (p.1, p.2) (λ r. having_refused c.in_ok-filter.ensures (ok_of _ _ c.group.ensures c.in_ok-filter-2.ensures.1) (err_of _ _ c.clause-2.ensures c.in_err-filter-3.ensures r))

pub returns : goal.returns
returns c =
    let h = c.in_ok-filter-2.ensures in
    let i = c.in_ok-filter-3.ensures in
    let p = ap (λ x. x.0) i.0 in
    let q = ap (λ x. x.1) i.0 in
    rw (p, q, h.0) (conditions_read c.in_ok-filter.ensures (ok_of _ _ c.group.ensures h.1) (ok_of _ _ c.clause-2.ensures i.1))
