use Rattle.aqe_fitting.proofs.OnePlan.{one_plan}
use Rattle.aqe_fitting.proofs.laws.one_plan_fits.Goals as goal

pub returns : goal.returns
returns c = one_plan
