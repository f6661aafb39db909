use Rattle.aqe_places.proofs.Bounds.{are_keys}
use Rattle.aqe_places.proofs.laws.samples_are_keys.Goals as goal

pub returns : goal.returns
returns c = are_keys
