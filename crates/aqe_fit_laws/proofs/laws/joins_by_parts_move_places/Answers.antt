use Rattle.aqe_fit_laws.proofs.JoinPlaces.{parts_joined}
use Rattle.aqe_fit_laws.proofs.laws.joins_by_parts_move_places.Goals as goal

pub returns : goal.returns
returns c = parts_joined
