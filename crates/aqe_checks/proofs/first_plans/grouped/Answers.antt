use Rattle.std.proofs.lemmas.Result.{IfOk-weaker}
use Rattle.aqe_logical.specs.declared.plan.Logical.{Logical}
use Rattle.aqe_checks.proofs.Planning.{aggregate_planned}
use Rattle.aqe_checks.proofs.first_plans.grouped.Goals as goal

pub returns : goal.returns
returns c = IfOk-weaker c.aggregate.result _ _ (λ (p : Logical) e. aggregate_planned 2 p c.args.keys c.args.calls c.new.result c.args.child e c.requires) c.aggregate.ensures
