use Rattle.aqe_rules.specs.Expressions.{read}
use Rattle.aqe_rules.specs.Selects.{calls_of_sorts}
use Rattle.aqe_calls.specs.Calls.{place_of}
use Rattle.aqe_calls.proofs.AddedSteps.{turned}
use Rattle.aqe_calls.proofs.CallLevels.{read_added}
use Rattle.aqe_calls.proofs.query.keys.Goals as goal

pub sorts-preserved : goal.sorts-preserved
sorts-preserved c =
    let p = place_of c.args.scope.now in
    turned (λ sort. (read sort.value p).calls) c.args.sorts.now c.sorts.next-index c.next-item.result c.args.calls.now c.sorts.calls c.or.new.calls (calls_of_sorts p c.args.sorts.now) c.sorts-test.true c.next-item.is c.sorts.invariant
    (read_added c.sorts.calls c.or.new.calls c.next-item.result.value p c.in_ok-or.ensures)
