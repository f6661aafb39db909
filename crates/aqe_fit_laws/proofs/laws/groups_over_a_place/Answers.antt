use Rattle.aqe_fit_laws.proofs.GroupPlaces.{over_a_place}
use Rattle.aqe_fit_laws.proofs.laws.groups_over_a_place.Goals as goal

pub returns : goal.returns
returns c = over_a_place
