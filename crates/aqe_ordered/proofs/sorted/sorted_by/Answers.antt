use Rattle.std.proofs.Common.{rules}
use Rattle.aqe_ordered.proofs.PlanSteps.{sorted_so}
use Rattle.aqe_ordered.proofs.sorted.sorted_by.Goals as goal

pub returns-else-is_empty : goal.returns-else-is_empty
returns-else-is_empty c = sorted_so c.args.keys c.args.plan c.sort.result (search rules) c.sort.ensures
