use Rattle.aqe_places.proofs.Ranges.{ranges_in_order}
use Rattle.aqe_places.proofs.laws.range_parts_are_in_order.Goals as goal

pub returns : goal.returns
returns c = ranges_in_order
