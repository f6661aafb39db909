use Rattle.std.proofs.lemmas.Result.{err_from_is_err_and}
use Rattle.aqe_reader.proofs.Outcomes.{ok_of, err_of}
use Rattle.aqe_reader.proofs.Cases.{case_read, case_armless, case_endless, case_refused}
use Rattle.aqe_reader.proofs.case.case.Goals as goal

pub returns-in_err-operand : goal.returns-in_err-operand
returns-in_err-operand g c = let p = err_from_is_err_and c.from_residual.result c.from_residual.ensures.1 in rw (p.1, p.2) (λ r. case_refused (c.in_err-operand.ensures r))

pub returns-in_err-operand-2 : goal.returns-in_err-operand-2
returns-in_err-operand-2 g c = let p = err_from_is_err_and c.from_residual-in_err-operand-2.result c.from_residual-in_err-operand-2.ensures.1 in rw (p.1, p.2) (λ r. case_armless c.in_ok-operand.ensures (err_of _ _ c.expect.ensures c.in_err-operand-2.ensures r))

pub returns-in_err-operand-3 : goal.returns-in_err-operand-3
returns-in_err-operand-3 g c = let p = err_from_is_err_and c.from_residual-in_err-operand-3.result c.from_residual-in_err-operand-3.ensures.1 in rw (p.1, p.2) (λ r. case_endless c.in_ok-operand.ensures (ok_of _ _ c.expect.ensures c.in_ok-operand-2.ensures.1) (err_of _ _ c.arms.ensures c.in_err-operand-3.ensures r))

pub returns : goal.returns
returns g c =
    let h = c.in_ok-operand-2.ensures in
    let i = c.in_ok-operand-3.ensures in
    rw (c.case.ensures, i.0, h.0) (case_read c.in_ok-operand.ensures (ok_of _ _ c.expect.ensures h.1) (ok_of _ _ c.arms.ensures i.1))
