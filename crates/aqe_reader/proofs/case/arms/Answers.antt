use Rattle.std.proofs.Common.{refl}
use Rattle.std.proofs.lemmas.Result.{err_from_is_err_and}
use Rattle.aqe_reader.proofs.Outcomes.{ok_of, err_of}
use Rattle.aqe_reader.proofs.Cases.{first_arm, first_refused, arms_step, branches_taken, branches_broken, branches_endless, behind_arm}
use Rattle.aqe_reader.proofs.case.arms.Goals as goal

pub more-init : goal.more-init
more-init g c =
    let h = c.in_ok-arms.ensures in
    let r = ok_of _ _ c.branch-nest.ensures h.1 in
    (rw (h.2, c.new.ensures) (first_arm r refl), r.shorter)

pub more-preserved : goal.more-preserved
more-preserved g c =
    let h = c.in_ok-arms-2.ensures in
    let r = ok_of _ _ c.branch-nest-in-Some.ensures h.1 in
    (rw h.2 (arms_step c.more.invariant.0 c.in-Some.ensures r), behind_arm _ _ c.in-Some.ensures c.more.invariant.1 r.shorter)

pub returns-in_err-arms : goal.returns-in_err-arms
returns-in_err-arms g c = let p = err_from_is_err_and c.from_residual.result c.from_residual.ensures.1 in rw (p.1, p.2) (λ r. first_refused (err_of _ _ c.branch-nest.ensures (c.in_err-arms.ensures r) r))

pub returns-in_err-arms-2 : goal.returns-in_err-arms-2
returns-in_err-arms-2 g c = let p = err_from_is_err_and c.from_residual-in_err-arms-2.result c.from_residual-in_err-arms-2.ensures.1 in rw (p.1, p.2) (λ r. branches_broken c.more.invariant.0 c.in-Some.ensures (err_of _ _ c.branch-nest-in-Some.ensures (c.in_err-arms-2.ensures r) r))

pub returns-in_err-arms-3 : goal.returns-in_err-arms-3
returns-in_err-arms-3 g c = let p = err_from_is_err_and c.from_residual-in_err-arms-3.result c.from_residual-in_err-arms-3.ensures.1 in rw (p.1, p.2) (λ r. branches_endless c.more.invariant.0 c.in_default.ensures (err_of _ _ c.ending.ensures c.in_err-arms-3.ensures r))

pub returns : goal.returns
returns g c = let h = c.in_ok-arms-3.ensures in rw h.0 (branches_taken c.more.invariant.0 c.in_default.ensures (ok_of _ _ c.ending.ensures h.1))
