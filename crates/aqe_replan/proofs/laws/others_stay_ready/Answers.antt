use Rattle.aqe_replan.proofs.Others.{stay_ready}
use Rattle.aqe_replan.proofs.laws.others_stay_ready.Goals as goal

pub returns : goal.returns
returns c = stay_ready
