use Rattle.std.proofs.Common.{rules}
use Rattle.aqe_select.proofs.OrderSteps.{slices_order}
use Rattle.aqe_select.proofs.orders.order.Goals as goal

pub returns : goal.returns
returns c =
    slices_order c.args.shown.now c.args.selected.now c.args.sorts.now c.slice-2.result.now c.slice-3.result.now c.slice-outputs.result.now c.len.result c.order_of.result
    c.slice-2.ensures c.slice-3.ensures (search rules) c.len.ensures c.order_of.ensures
