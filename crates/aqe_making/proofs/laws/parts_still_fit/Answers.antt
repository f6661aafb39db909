use Rattle.aqe_making.proofs.Fitting.{still_fit}
use Rattle.aqe_making.proofs.laws.parts_still_fit.Goals as goal

pub returns : goal.returns
returns c = still_fit
