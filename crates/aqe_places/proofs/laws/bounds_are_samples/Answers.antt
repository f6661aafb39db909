use Rattle.aqe_places.proofs.Bounds.{are_samples}
use Rattle.aqe_places.proofs.laws.bounds_are_samples.Goals as goal

pub returns : goal.returns
returns c = are_samples
