use Rattle.std.proofs.Common.{rules, ◌≡◌, ◌+◌, length, sym, subst}
use Rattle.aqe_physical.specs.declared.plan.Plan.{Plan}
use Rattle.aqe_checks.specs.Serving.{Follows}
use Rattle.aqe_checks.proofs.BodySteps.{final_follows}
use Rattle.aqe_checks.proofs.task_bodies.finished.Goals as goal

pub returns : goal.returns
returns c =
    let same : c.args.child.plan ≡ c.in_ok-calls.child = cc (c.in_ok-calls.ensures.second) in
    let wide : c.args.child.width ≡ c.args.keys + length c.in_ok-calls.calls = search rules in
    subst (λ (q : Plan). Follows q c.args.child.parts c.args.child.width c.in_ok-plan.plan c.args.child.parts c.args.child.width) (sym same)
    (final_follows c.in_ok-plan.plan c.args.keys c.in_ok-calls.calls c.in_ok-calls.child c.args.child.parts c.args.child.width c.in_ok-plan.ensures wide)
