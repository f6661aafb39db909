use Rattle.aqe_making.proofs.Standing.{made_at}
use Rattle.aqe_making.proofs.laws.stages_are_made.Goals as goal

pub returns : goal.returns
returns c = made_at
