use Rattle.aqe_fit_laws.proofs.JoinPlaces.{right_moved}
use Rattle.aqe_fit_laws.proofs.laws.joins_move_the_right_place.Goals as goal

pub returns : goal.returns
returns c = right_moved
