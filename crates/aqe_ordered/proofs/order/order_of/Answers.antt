use Rattle.std.proofs.Common.{List, [], ◌≡◌, fold, take, Ok, subst, arith}
use Rattle.std.proofs.lemmas.List.{take_all}
use Rattle.aqe_trees.specs.declared.query.SortTree.{SortTree}
use Rattle.aqe_sources.specs.Seen.{SaysSeen}
use Rattle.aqe_ordered.specs.Orders.{order_seen, with_next}
use Rattle.aqe_ordered.proofs.OrderSteps.{order_all}
use Rattle.aqe_ordered.proofs.order.order_of.Goals as goal

pub returns : goal.returns
returns g c =
    let sorts = c.args.sorts.now in
    let outputs = c.args.outputs.now in
    let hide = g.H.Hiding.rule c.args.hiding.now in
    let whole : take c.sorts.sort-index sorts ≡ sorts = take_all c.sorts.sort-index sorts (omega arith) in
    rw (← order_all hide c.args.first outputs sorts)
    (subst (λ (l : List SortTree). SaysSeen order_seen c.sorts.so_far (fold (with_next hide c.args.first outputs) (Ok ([], [])) l)) whole c.sorts.invariant)
