use Rattle.aqe_places.proofs.Ordered.{orders}
use Rattle.aqe_places.proofs.laws.sort_keys_order.Goals as goal

pub returns : goal.returns
returns c = orders
