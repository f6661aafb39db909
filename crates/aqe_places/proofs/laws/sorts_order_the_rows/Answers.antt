use Rattle.aqe_places.proofs.Sorted.{order}
use Rattle.aqe_places.proofs.laws.sorts_order_the_rows.Goals as goal

pub returns : goal.returns
returns c = order
