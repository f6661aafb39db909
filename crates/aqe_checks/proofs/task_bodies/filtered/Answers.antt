use Rattle.std.proofs.Common.{◌≡◌, sym, subst}
use Rattle.aqe_physical.specs.declared.plan.Plan.{Plan}
use Rattle.aqe_checks.specs.Serving.{Follows}
use Rattle.aqe_checks.proofs.BodySteps.{filter_follows}
use Rattle.aqe_checks.proofs.task_bodies.filtered.Goals as goal

pub returns : goal.returns
returns c =
    let same : c.args.child.plan ≡ c.in_ok-cond.child = cc (c.in_ok-cond.ensures.second) in
    subst (λ (q : Plan). Follows q c.args.child.parts c.args.child.width c.in_ok-plan.plan c.args.child.parts c.args.child.width) (sym same)
    (filter_follows c.in_ok-plan.plan c.in_ok-cond.cond c.in_ok-cond.child c.args.child.parts c.args.child.width c.in_ok-plan.ensures)
