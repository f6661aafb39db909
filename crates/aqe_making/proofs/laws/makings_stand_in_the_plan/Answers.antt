use Rattle.aqe_making.proofs.Standing.{standing}
use Rattle.aqe_making.proofs.laws.makings_stand_in_the_plan.Goals as goal

pub returns : goal.returns
returns c = standing
