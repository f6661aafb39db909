use Rattle.aqe_scheduler.proofs.Runs.{fates_are_right}
use Rattle.aqe_scheduler.proofs.laws.fates_are_right.Goals as goal

pub returns : goal.returns
returns c = fates_are_right
