use Rattle.std.proofs.lemmas.Result.{IfOk-weaker}
use Rattle.aqe_logical.specs.declared.plan.Logical.{Logical}
use Rattle.aqe_checks.proofs.Planning.{project_planned}
use Rattle.aqe_checks.proofs.first_plans.projected.Goals as goal

pub returns : goal.returns
returns c = IfOk-weaker c.project.result _ _ (λ (p : Logical) e. project_planned 2 p c.args.items c.new.result c.args.child e c.requires) c.project.ensures
