use Rattle.std.proofs.Common.{rules}
use Rattle.aqe_select.proofs.PlanSteps.{having_made}
use Rattle.aqe_select.proofs.plans.filtered_by.Goals as goal

pub returns-in_ok-plan-in-Some : goal.returns-in_ok-plan-in-Some
returns-in_ok-plan-in-Some c = having_made c.args.having c.in-Some.having c.args.below c.in_ok-plan-in-Some.plan (search rules) (search rules)
