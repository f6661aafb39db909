use Rattle.aqe_laws.proofs.Outcomes.{one}
use Rattle.aqe_laws.proofs.laws.one_plan.Goals as goal

pub returns : goal.returns
returns c = one
