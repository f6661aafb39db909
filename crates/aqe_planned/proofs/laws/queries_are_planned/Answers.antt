use Rattle.aqe_planned.proofs.Planned.{planned}
use Rattle.aqe_planned.proofs.laws.queries_are_planned.Goals as goal

pub returns : goal.returns
returns c = planned
