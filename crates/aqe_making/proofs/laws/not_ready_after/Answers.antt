use Rattle.aqe_making.proofs.Stepping.{not_ready}
use Rattle.aqe_making.proofs.laws.not_ready_after.Goals as goal

pub returns : goal.returns
returns c = not_ready
