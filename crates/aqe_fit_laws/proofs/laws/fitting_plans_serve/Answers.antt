use Rattle.aqe_fit_laws.proofs.FittingServes.{fitting_serve}
use Rattle.aqe_fit_laws.proofs.laws.fitting_plans_serve.Goals as goal

pub returns : goal.returns
returns c = fitting_serve
