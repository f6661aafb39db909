use Rattle.aqe_scheduler.proofs.Runs.{reruns_are_bounded}
use Rattle.aqe_scheduler.proofs.laws.reruns_are_bounded.Goals as goal

pub returns : goal.returns
returns c = reruns_are_bounded
