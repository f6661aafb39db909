use Rattle.std.proofs.Common.{subst}
use Rattle.std.specs.Prelude.{MatchResult, Err, ◌≡◌}
use Rattle.aqe_typing.specs.Calls.{calls_seen}
use Rattle.aqe_ordered.specs.Orders.{order_seen}
use Rattle.aqe_sources.specs.Given.{Gives}
use Rattle.aqe_select.specs.Orders.{with_order}
use Rattle.aqe_select.proofs.OrderSteps.{ordered-say}
use Rattle.aqe_select.proofs.orders.ordered.Goals as goal

pub returns : goal.returns
returns c =
    ordered-say c.args.clauses.now c.args.shown c.args.selected c.within-within.result c.order-order.result c.finished.result c.within-within.ensures c.order-order.ensures
    (subst (λ (both : _). MatchResult both (λ o. Gives c.finished.result (λ p. p ≡ with_order c.args.selected (calls_seen c.args.shown.calls) (order_seen o.1))) (λ f. c.finished.result ≡ Err f))
    c.both_of.ensures c.finished.ensures)
