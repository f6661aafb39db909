use Rattle.aqe_places.proofs.Exchanged.{are_hash_parts}
use Rattle.aqe_places.proofs.laws.hash_places_are_parts.Goals as goal

pub returns : goal.returns
returns c = are_hash_parts
