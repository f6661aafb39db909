use Rattle.std.proofs.Common.{rules}
use Rattle.aqe_sources.proofs.JoinSteps.{filtered_made}
use Rattle.aqe_sources.proofs.conditions.filter.Goals as goal

pub returns : goal.returns
returns c = filtered_made c.args.condition c.args.plan c.in_ok-plan.plan (search rules)
