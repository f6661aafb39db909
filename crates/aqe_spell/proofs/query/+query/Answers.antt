use Rattle.std.proofs.Common.{sym}
use Rattle.std.proofs.lemmas.List.{drop_all}
use Rattle.aqe_phrases.proofs.Chains.{going_begin, going_step, going_all}
use Rattle.aqe_spell.proofs.Queries.{core_paren_spelled, core_select_spelled, no_from_spelled, from_step, from_spelled, joined_spelled, step_spelled, query_spelled, select_spelled, table_spelled, source_paren_spelled, union_step, union_spelled}
use Rattle.aqe_spell.proofs.query.+query.Goals as goal

pub core-returns-in_ok-fixed-in-Paren-2 : goal.core-returns-in_ok-fixed-in-Paren-2
core-returns-in_ok-fixed-in-Paren-2 t c = rw (c.in-Paren.is, sym c.get.ensures) (core_paren_spelled c.in_ok-fixed-in-Paren.ensures c.in_ok-query-in-Paren.ensures c.in_ok-fixed-in-Paren-2.ensures)

pub core-returns-in_ok-select-in-Select : goal.core-returns-in_ok-select-in-Select
core-returns-in_ok-select-in-Select t c = rw c.in-Select.is (core_select_spelled c.in_ok-fixed-in-Select.ensures c.in_ok-select-in-Select.ensures)

pub from-more-init : goal.from-more-init
from-more-init t c = going_begin

pub from-more-preserved : goal.from-more-preserved
from-more-preserved t c = going_step c.in-Some.rest.now c.more.next-index c.next-item.result c.more-test.true (sym c.next-item.is) c.more.invariant (from_step c.in_ok-fixed-in-Some-2.ensures c.in_ok-joined-in-Some-2.ensures)

pub from-returns-in-None : goal.from-returns-in-None
from-returns-in-None t c = no_from_spelled c.args.sources.now c.in-None.ensures.cases

pub from-returns-after-more : goal.from-returns-after-more
from-returns-after-more t c = rw c.in-Some.ensures.cases.0 (from_spelled c.in_ok-fixed-in-Some.ensures c.in_ok-joined-in-Some.ensures (going_all (drop_all c.more.next-index c.in-Some.rest.now c.more-test.false) c.more.invariant))

pub joined-more-init : goal.joined-more-init
joined-more-init t c = going_begin

pub joined-more-preserved : goal.joined-more-preserved
joined-more-preserved t c = going_step c.joined_parts.result.1.now c.more.next-index c.next-item.result c.more-test.true (sym c.next-item.is) c.more.invariant (c.in_ok-step.ensures _)

pub joined-returns : goal.joined-returns
joined-returns t c = rw c.joined_parts.ensures (joined_spelled c.in_ok-source.ensures (going_all (drop_all c.more.next-index c.joined_parts.result.1.now c.more-test.false) c.more.invariant))

pub query-returns : goal.query-returns
query-returns t c = rw c.query_parts-limit.ensures (query_spelled c.in_ok-union.ensures c.in_ok-order.ensures c.in_ok-bound.ensures c.in_ok-bound-2.ensures)

pub select-returns : goal.select-returns
select-returns t c = rw c.select_parts-once.ensures (select_spelled c.select_parts-once.result.0 c.in_ok-distinct.ensures c.in_ok-items.ensures c.in_ok-from.ensures c.in_ok-clause.ensures c.in_ok-group.ensures c.in_ok-clause-2.ensures)

pub source-returns-in_ok-alias-in-Table : goal.source-returns-in_ok-alias-in-Table
source-returns-in_ok-alias-in-Table t c = rw c.in-Table.is (table_spelled c.in_ok-name-in-Table.ensures c.in_ok-alias-in-Table.ensures)

pub source-returns-in_ok-alias-in-Paren : goal.source-returns-in_ok-alias-in-Paren
source-returns-in_ok-alias-in-Paren t c = rw (c.in-Paren.is, sym c.get.ensures) (source_paren_spelled c.in_ok-fixed-in-Paren.ensures c.in_ok-query-in-Paren.ensures c.in_ok-fixed-in-Paren-2.ensures c.in_ok-alias-in-Paren.ensures)

pub step-returns : goal.step-returns
step-returns t c = rw c.step_parts-which.ensures (step_spelled c.in_ok-kind.ensures c.in_ok-source.ensures c.in_ok-clause.ensures)

pub union-more-init : goal.union-more-init
union-more-init t c = going_begin

pub union-more-preserved : goal.union-more-preserved
union-more-preserved t c = going_step c.union_parts.result.1.now c.more.next-index c.next-item.result c.more-test.true (sym c.next-item.is) c.more.invariant (union_step c.in_ok-fixed.ensures c.in_ok-all.ensures c.in_ok-core-2.ensures)

pub union-returns : goal.union-returns
union-returns t c = rw c.union_parts.ensures (union_spelled c.in_ok-core.ensures (going_all (drop_all c.more.next-index c.union_parts.result.1.now c.more-test.false) c.more.invariant))
