use Rattle.aqe_bodies.proofs.MadeRuns.{bodies}
use Rattle.aqe_bodies.proofs.laws.bodies_of_stages_run.Goals as goal

pub returns : goal.returns
returns c = bodies
