use Rattle.std.proofs.Common.{rules}
use Rattle.aqe_outputs.specs.Shown.{outputs_seen}
use Rattle.aqe_select.proofs.PlanSteps.{projection_made}
use Rattle.aqe_select.proofs.plans.projected_to.Goals as goal

pub returns : goal.returns
returns c = projection_made (outputs_seen c.args.outputs) c.in_ok-items.items c.in_ok-items.schema c.args.below c.in_ok-plan.plan (search rules) (search rules) (search rules)
