use Rattle.std.specs.Prelude.{flat_map}
use Rattle.aqe_rules.specs.Selects.{calls_of_item}
use Rattle.aqe_calls.specs.Calls.{place_of}
use Rattle.aqe_calls.proofs.AddedSteps.{turned}
use Rattle.aqe_calls.proofs.query.items.Goals as goal

pub items-preserved : goal.items-preserved
items-preserved c =
    let p = place_of c.args.scope.now in
    turned (calls_of_item p) c.args.list.now c.items.next-index c.next-item.result c.args.calls.now c.items.calls c.item.new.calls (flat_map (calls_of_item p) c.args.list.now) c.items-test.true c.next-item.is c.items.invariant c.in_ok-item.ensures
