use Rattle.std.proofs.lemmas.Result.{err_from_is_err_and}
use Rattle.aqe_reader.proofs.Outcomes.{ok_of, err_of}
use Rattle.aqe_reader.proofs.Operands.{call_read, call_unclosed, call_refused}
use Rattle.aqe_reader.proofs.primary.called.Goals as goal

pub returns-in_err-arguments : goal.returns-in_err-arguments
returns-in_err-arguments g c = let p = err_from_is_err_and c.from_residual.result c.from_residual.ensures.1 in rw (p.1, p.2) (λ r. call_refused c.in_default.ensures (c.in_err-arguments.ensures r))

pub returns-in_err-arguments-2 : goal.returns-in_err-arguments-2
returns-in_err-arguments-2 g c = let p = err_from_is_err_and c.from_residual-in_err-arguments-2.result c.from_residual-in_err-arguments-2.ensures.1 in rw (p.1, p.2) (λ r. call_unclosed c.in_default.ensures c.in_ok-arguments.ensures (err_of _ _ c.expect.ensures c.in_err-arguments-2.ensures r))

pub returns-in_err-arguments-3 : goal.returns-in_err-arguments-3
returns-in_err-arguments-3 g c = let p = err_from_is_err_and c.from_residual-in_err-arguments-3.result c.from_residual-in_err-arguments-3.ensures.1 in rw (p.1, p.2) (λ r. absurd (err_of _ _ c.own.ensures c.in_err-arguments-3.ensures r))

pub returns : goal.returns
returns g c =
    let h = c.in_ok-arguments-2.ensures in
    let i = c.in_ok-arguments-3.ensures in
    rw (c.call.ensures, i.0, h.0, ok_of _ _ c.own.ensures i.1) (call_read c.in_default.ensures c.in_ok-arguments.ensures (ok_of _ _ c.expect.ensures h.1))
