use Rattle.aqe_fit_laws.proofs.GroupPlaces.{finished_stand}
use Rattle.aqe_fit_laws.proofs.laws.finished_exchanges_stand.Goals as goal

pub returns : goal.returns
returns c = finished_stand
