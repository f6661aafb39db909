use Rattle.aqe_replan.proofs.Others.{can_be_made}
use Rattle.aqe_replan.proofs.laws.ready_can_be_made.Goals as goal

pub returns : goal.returns
returns c = can_be_made
