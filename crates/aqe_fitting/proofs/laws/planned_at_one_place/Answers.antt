use Rattle.aqe_fitting.proofs.OnePlan.{one_place}
use Rattle.aqe_fitting.proofs.laws.planned_at_one_place.Goals as goal

pub returns : goal.returns
returns c = one_place
