use Rattle.std.proofs.lemmas.Result.{err_from_is_err_and}
use Rattle.aqe_reader.proofs.Outcomes.{ok_of, err_of}
use Rattle.aqe_reader.proofs.Cases.{arm_read, arm_cut, arm_empty}
use Rattle.aqe_reader.proofs.case.branch.Goals as goal

pub returns-in_err-when-2 : goal.returns-in_err-when-2
returns-in_err-when-2 g c = let p = err_from_is_err_and c.from_residual-in_err-when-2.result c.from_residual-in_err-when-2.ensures.1 in rw (p.1, p.2) (λ r. arm_cut c.in_ok-when.ensures (err_of _ _ c.expect.ensures c.in_err-when-2.ensures r))

pub returns-in_err-when-3 : goal.returns-in_err-when-3
returns-in_err-when-3 g c = let p = err_from_is_err_and c.from_residual-in_err-when-3.result c.from_residual-in_err-when-3.ensures.1 in rw (p.1, p.2) (λ r. arm_empty c.in_ok-when.ensures (ok_of _ _ c.expect.ensures c.in_ok-when-2.ensures.1) (err_of _ _ c.inner-2.ensures c.in_err-when-3.ensures r))

pub returns : goal.returns
returns g c =
    let h = c.in_ok-when-2.ensures in
    let i = c.in_ok-when-3.ensures in
    rw (c.in_ok-arm_of.ensures, i.0, h.0) (arm_read c.in_ok-when.ensures (ok_of _ _ c.expect.ensures h.1) (ok_of _ _ c.inner-2.ensures i.1))
