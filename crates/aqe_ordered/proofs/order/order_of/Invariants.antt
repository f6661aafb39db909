use Rattle.std.proofs.Common.{[], take, fold, Ok}
use Rattle.aqe_ordered.specs.Orders.{order_seen, with_next}
use Rattle.aqe_sources.specs.Seen.{SaysSeen}
use Rattle.aqe_ordered.proofs.order.order_of.Given as goal

abbrev pub invariant-sorts : goal.invariant-sorts
invariant-sorts g l = SaysSeen order_seen l.so_far (fold (with_next (g.H.Hiding.rule l.hiding) l.first l.outputs) (Ok ([], [])) (take l.sort-index l.sorts))
