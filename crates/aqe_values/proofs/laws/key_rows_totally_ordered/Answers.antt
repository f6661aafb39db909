use Rattle.aqe_values.proofs.TotalOrders.{keys_total}
use Rattle.aqe_values.proofs.laws.key_rows_totally_ordered.Goals as goal

pub returns : goal.returns
returns c = keys_total
