use Rattle.aqe_laws.proofs.Outcomes.{either}
use Rattle.aqe_laws.proofs.laws.plan_or_check.Goals as goal

pub returns : goal.returns
returns c = either
