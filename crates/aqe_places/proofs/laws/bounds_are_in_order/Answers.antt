use Rattle.aqe_places.proofs.Bounds.{in_order}
use Rattle.aqe_places.proofs.laws.bounds_are_in_order.Goals as goal

pub returns : goal.returns
returns c = in_order
