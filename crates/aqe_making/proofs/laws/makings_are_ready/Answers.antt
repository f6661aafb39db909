use Rattle.aqe_making.proofs.Standing.{are_ready}
use Rattle.aqe_making.proofs.laws.makings_are_ready.Goals as goal

pub returns : goal.returns
returns c = are_ready
