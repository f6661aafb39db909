use Rattle.aqe_fit_laws.proofs.PlansServe.{plans_serve}
use Rattle.aqe_fit_laws.proofs.laws.plans_serve.Goals as goal

pub returns : goal.returns
returns c = plans_serve
