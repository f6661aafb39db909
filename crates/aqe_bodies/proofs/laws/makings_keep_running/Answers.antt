use Rattle.aqe_bodies.proofs.MadeRuns.{made_runs}
use Rattle.aqe_bodies.proofs.laws.makings_keep_running.Goals as goal

pub returns : goal.returns
returns c = made_runs
