use Rattle.aqe_join_keys.proofs.Sides.{over_their_sides}
use Rattle.aqe_join_keys.proofs.laws.keys_are_over_their_sides.Goals as goal

pub returns : goal.returns
returns c = over_their_sides
