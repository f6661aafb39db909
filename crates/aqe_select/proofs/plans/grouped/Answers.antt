use Rattle.std.proofs.Common.{rules}
use Rattle.aqe_typing.specs.Calls.{calls_seen}
use Rattle.aqe_select.proofs.PlanSteps.{groups_made}
use Rattle.aqe_select.proofs.plans.grouped.Goals as goal

pub returns : goal.returns
returns c =
    groups_made c.args.keys (calls_seen c.args.calls) c.args.below c.in_ok-plan.plan c.in_ok-keys.keys c.in_ok-keys.calls c.in_ok-keys.schema
    (search rules) (search rules) (search rules) (search rules)
