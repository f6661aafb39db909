use Rattle.std.proofs.lemmas.Result.{err_from_is_err_and}
use Rattle.aqe_reader.proofs.Outcomes.{ok_of, err_of}
use Rattle.aqe_syntax.proofs.Rules.{tail_read, tail_refused, limit_refused, offset_refused}
use Rattle.aqe_syntax.proofs.parts.tail.Goals as goal

pub returns-in_err-sorts : goal.returns-in_err-sorts
returns-in_err-sorts c = let p = err_from_is_err_and c.from_residual.result c.from_residual.ensures.1 in rw (p.1, p.2) (λ r. tail_refused (c.in_err-sorts.ensures r))

pub returns-in_err-sorts-2 : goal.returns-in_err-sorts-2
returns-in_err-sorts-2 c = let p = err_from_is_err_and c.from_residual-in_err-sorts-2.result c.from_residual-in_err-sorts-2.ensures.1 in rw (p.1, p.2) (λ r. limit_refused c.in_ok-sorts.ensures (err_of _ _ c.bound.ensures c.in_err-sorts-2.ensures r))

pub returns-in_err-sorts-3 : goal.returns-in_err-sorts-3
returns-in_err-sorts-3 c = let p = err_from_is_err_and c.from_residual-in_err-sorts-3.result c.from_residual-in_err-sorts-3.ensures.1 in rw (p.1, p.2) (λ r. offset_refused c.in_ok-sorts.ensures (ok_of _ _ c.bound.ensures c.in_ok-sorts-2.ensures.1) (err_of _ _ c.bound-2.ensures c.in_err-sorts-3.ensures r))

pub returns : goal.returns
returns c =
    let h = c.in_ok-sorts-2.ensures in
    let i = c.in_ok-sorts-3.ensures in
    rw (i.0, h.0) (tail_read c.in_ok-sorts.ensures (ok_of _ _ c.bound.ensures h.1) (ok_of _ _ c.bound-2.ensures i.1))
