use Rattle.aqe_join_laws.proofs.Sides.{over_a_place}
use Rattle.aqe_join_laws.proofs.laws.joined_sides_over_a_place.Goals as goal

pub returns : goal.returns
returns c = over_a_place
