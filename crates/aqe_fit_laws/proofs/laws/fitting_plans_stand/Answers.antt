use Rattle.aqe_fit_laws.proofs.FittingServes.{fitting_stand}
use Rattle.aqe_fit_laws.proofs.laws.fitting_plans_stand.Goals as goal

pub returns : goal.returns
returns c = fitting_stand
