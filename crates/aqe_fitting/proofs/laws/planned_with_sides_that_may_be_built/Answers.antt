use Rattle.aqe_fitting.proofs.OnePlan.{buildable}
use Rattle.aqe_fitting.proofs.laws.planned_with_sides_that_may_be_built.Goals as goal

pub returns : goal.returns
returns c = buildable
