use Rattle.aqe_fit_laws.proofs.Projected.{projected_places}
use Rattle.aqe_fit_laws.proofs.laws.projects_move_places.Goals as goal

pub returns : goal.returns
returns c = projected_places
