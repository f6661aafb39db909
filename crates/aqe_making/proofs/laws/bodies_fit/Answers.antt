use Rattle.aqe_making.proofs.Fitting.{body_fits}
use Rattle.aqe_making.proofs.laws.bodies_fit.Goals as goal

pub returns : goal.returns
returns c = body_fits
