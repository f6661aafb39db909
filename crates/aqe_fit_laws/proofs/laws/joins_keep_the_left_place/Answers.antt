use Rattle.aqe_fit_laws.proofs.JoinPlaces.{left_kept}
use Rattle.aqe_fit_laws.proofs.laws.joins_keep_the_left_place.Goals as goal

pub returns : goal.returns
returns c = left_kept
