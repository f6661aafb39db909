use Rattle.aqe_fit_laws.proofs.GroupPlaces.{group_places}
use Rattle.aqe_fit_laws.proofs.laws.groups_move_places.Goals as goal

pub returns : goal.returns
returns c = group_places
