use Rattle.aqe_bodies.proofs.Carried.{later_runs}
use Rattle.aqe_bodies.proofs.laws.later_stages_keep_running.Goals as goal

pub returns : goal.returns
returns c = later_runs
