use Rattle.aqe_places.proofs.Ordered.{in_turn}
use Rattle.aqe_places.proofs.laws.sort_keys_decide_in_turn.Goals as goal

pub returns : goal.returns
returns c = in_turn
