use Rattle.std.proofs.Common.{sym}
use Rattle.std.proofs.lemmas.List.{drop_all}
use Rattle.aqe_phrases.proofs.Chains.{going_begin, going_step, going_all}
use Rattle.aqe_spell.proofs.Queries.{no_order_spelled, order_spelled, sort_step}
use Rattle.aqe_spell.proofs.query_leaf.order.Goals as goal

pub more-init : goal.more-init
more-init c = going_begin

pub more-preserved : goal.more-preserved
more-preserved c = going_step c.in-Some.rest.now c.more.next-index c.next-item.result c.more-test.true (sym c.next-item.is) c.more.invariant (sort_step c.in_ok-fixed-in-Some-3.ensures c.in_ok-sort-in-Some-2.ensures)

pub returns-in-None : goal.returns-in-None
returns-in-None c = no_order_spelled c.args.keys.now c.in-None.ensures.cases

pub returns-after-more : goal.returns-after-more
returns-after-more c = rw c.in-Some.ensures.cases.0 (order_spelled c.in_ok-fixed-in-Some.ensures c.in_ok-fixed-in-Some-2.ensures c.in_ok-sort-in-Some.ensures (going_all (drop_all c.more.next-index c.in-Some.rest.now c.more-test.false) c.more.invariant))
