use Rattle.std.proofs.lemmas.Result.{IfOk-weaker}
use Rattle.aqe_logical.specs.declared.plan.Logical.{Logical}
use Rattle.aqe_checks.proofs.Planning.{filter_planned}
use Rattle.aqe_checks.proofs.first_plans.filtered.Goals as goal

pub returns : goal.returns
returns c = IfOk-weaker c.filter.result _ _ (λ (p : Logical) e. filter_planned 2 p _ c.args.child e c.requires) c.filter.ensures
