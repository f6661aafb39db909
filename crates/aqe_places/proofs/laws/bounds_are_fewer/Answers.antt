use Rattle.aqe_places.proofs.Bounds.{fewer}
use Rattle.aqe_places.proofs.laws.bounds_are_fewer.Goals as goal

pub returns : goal.returns
returns c = fewer
