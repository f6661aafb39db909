use Rattle.aqe_fit_laws.proofs.Bodies.{bodies_run}
use Rattle.aqe_fit_laws.proofs.laws.parts_without_exchange_run.Goals as goal

pub returns : goal.returns
returns c = bodies_run
