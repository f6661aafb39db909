use Rattle.aqe_places.proofs.Exchanged.{are_parts}
use Rattle.aqe_places.proofs.laws.range_places_are_parts.Goals as goal

pub returns : goal.returns
returns c = are_parts
