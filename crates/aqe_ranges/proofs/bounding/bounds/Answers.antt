use Rattle.std.proofs.Common.{rules, ◌≡◌}
use Rattle.std.proofs.lemmas.Result.{IfOk-weaker}
use Rattle.aqe_places.specs.Sorting.{stable_sort}
use Rattle.aqe_ranges.specs.Lent.{rows_seen}
use Rattle.aqe_ranges.specs.Order.{key_less}
use Rattle.aqe_ranges.proofs.InOrder.{bounds_few, bounds_rise}
use Rattle.aqe_ranges.proofs.bounding.bounds.Goals as goal

pub returns-clause-few : goal.returns-clause-few
returns-clause-few c =
    let sorted : rows_seen c.as_slice.result.now ≡ stable_sort (key_less c.args.keys.now) c.args.samples.now = search rules in
    IfOk-weaker c.bounds_among.result _ _ (bounds_few c.args.keys.now c.args.n c.args.samples.now c.as_slice.result.now sorted c.requires) c.bounds_among.ensures

pub returns-clause-order : goal.returns-clause-order
returns-clause-order c =
    let sorted : rows_seen c.as_slice.result.now ≡ stable_sort (key_less c.args.keys.now) c.args.samples.now = search rules in
    IfOk-weaker c.bounds_among.result _ _ (bounds_rise c.args.keys.now c.args.n c.args.samples.now c.as_slice.result.now sorted) c.bounds_among.ensures
