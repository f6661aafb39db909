use Rattle.std.proofs.Common.{refl, ap, arith}
use Rattle.std.proofs.lemmas.Result.{err_from_is_err_and}
use Rattle.aqe_reader.proofs.Outcomes.{ok_of, err_of}
use Rattle.aqe_syntax.proofs.Chain.{if_err_of}
use Rattle.aqe_syntax.proofs.Rules.{query_read, query_refused, query_tail_refused, union_read, union_refused, union_cores_refused, cores_begin, cores_step, cores_done, cores_refused, paren_core_read, paren_core_refused, selected_answer, core_refused, nested_read, nested_refused, nested_open, select_read, select_items_refused, select_from_refused, select_conditions_refused, from_begin, from_step, from_done, no_from_read, from_refused, from_item_refused, kind_shorter, joined_begin, joined_step, joined_done, joined_refused, join_step_refused, join_kind_refused, step_read, step_source_refused, step_on_refused, table_read, table_alias_refused, paren_source_read, paren_source_refused, paren_alias_refused, source_refused}
use Rattle.aqe_syntax.proofs.queries.+query.Goals as goal

pub boxed_query-returns-in_err-body : goal.boxed_query-returns-in_err-body
boxed_query-returns-in_err-body t c = let p = err_from_is_err_and c.from_residual.result c.from_residual.ensures.1 in rw (p.1, p.2) (λ r. query_refused (c.in_err-body.ensures r))

pub boxed_query-returns-in_err-body-2 : goal.boxed_query-returns-in_err-body-2
boxed_query-returns-in_err-body-2 t c = let p = err_from_is_err_and c.from_residual-in_err-body-2.result c.from_residual-in_err-body-2.ensures.1 in rw (p.1, p.2) (λ r. query_tail_refused c.in_ok-body.ensures (err_of _ _ c.tail.ensures c.in_err-body-2.ensures r))

pub boxed_query-returns : goal.boxed_query-returns
boxed_query-returns t c = let h = c.in_ok-body-2.ensures in rw (c.in_ok-query_of.ensures, h.0) (query_read c.in_ok-body.ensures (ok_of _ _ c.tail.ensures h.1))

pub union-returns-in_err-first : goal.union-returns-in_err-first
union-returns-in_err-first t c = let p = err_from_is_err_and c.from_residual.result c.from_residual.ensures.1 in rw (p.1, p.2) (λ r. union_refused (c.in_err-first.ensures r))

pub union-returns-in_err-first-2 : goal.union-returns-in_err-first-2
union-returns-in_err-first-2 t c = let p = err_from_is_err_and c.from_residual-in_err-first-2.result c.from_residual-in_err-first-2.ensures.1 in rw (p.1, p.2) (λ r. union_cores_refused c.in_ok-first.ensures (err_of _ _ c.cores.ensures c.in_err-first-2.ensures r))

pub union-returns : goal.union-returns
union-returns t c = let h = c.in_ok-first-2.ensures in rw (c.in_ok-union_of.ensures, h.0) (union_read c.in_ok-first.ensures (ok_of _ _ c.cores.ensures h.1))

pub cores-more-init : goal.cores-more-init
cores-more-init t c = cores_begin c.new-cores.ensures

pub cores-more-preserved : goal.cores-more-preserved
cores-more-preserved t c = let h = c.in_ok-cores.ensures in cores_step c.more.invariant c.in-Some.ensures c.distinct-once.ensures (ok_of _ _ c.core.ensures h.1) h.2

pub cores-returns-in_err-cores : goal.cores-returns-in_err-cores
cores-returns-in_err-cores t c = let p = err_from_is_err_and c.from_residual.result c.from_residual.ensures.1 in rw (p.1, p.2) (λ r. cores_refused c.more.invariant c.in-Some.ensures c.distinct-once.ensures (err_of _ _ c.core.ensures (c.in_err-cores.ensures r) r))

pub cores-returns : goal.cores-returns
cores-returns t c = cores_done c.more.invariant c.in_default.ensures

pub core-returns-in-Some : goal.core-returns-in-Some
core-returns-in-Some t c = rw c.in_ok-paren_of.ensures (paren_core_read c.in-Some.ensures c.in_ok-inner.ensures)

pub core-returns-in_err-inner : goal.core-returns-in_err-inner
core-returns-in_err-inner t c = let p = err_from_is_err_and c.from_residual.result c.from_residual.ensures.1 in rw (p.1, p.2) (λ r. paren_core_refused c.in-Some.ensures (c.in_err-inner.ensures r))

pub core-returns-in_err-after : goal.core-returns-in_err-after
core-returns-in_err-after t c = let p = err_from_is_err_and c.from_residual-in_err-after.result c.from_residual-in_err-after.ensures.1 in rw (p.1, p.2) (λ r. core_refused c.in_default.ensures (c.in_err-after.ensures r))

pub core-returns : goal.core-returns
core-returns t c = selected_answer _ c.in_ok-after.ensures c.select.ensures

pub nested-returns-in_err-inner : goal.nested-returns-in_err-inner
nested-returns-in_err-inner t c = let p = err_from_is_err_and c.from_residual.result c.from_residual.ensures.1 in rw (p.1, p.2) (λ r. nested_refused (c.in_err-inner.ensures r))

pub nested-returns-in_err-inner-2 : goal.nested-returns-in_err-inner-2
nested-returns-in_err-inner-2 t c = let p = err_from_is_err_and c.from_residual-in_err-inner-2.result c.from_residual-in_err-inner-2.ensures.1 in rw (p.1, p.2) (λ r. nested_open c.in_ok-inner.ensures (err_of _ _ c.expect.ensures c.in_err-inner-2.ensures r))

pub nested-returns : goal.nested-returns
nested-returns t c = let h = c.in_ok-inner-2.ensures in rw h.0 (nested_read c.in_ok-inner.ensures (ok_of _ _ c.expect.ensures h.1))

pub select-returns-in_err-columns : goal.select-returns-in_err-columns
select-returns-in_err-columns t c = let p = err_from_is_err_and c.from_residual.result c.from_residual.ensures.1 in rw (p.1, p.2) (λ r. select_items_refused c.distinct-once.ensures (c.in_err-columns.ensures r))

pub select-returns-in_err-columns-2 : goal.select-returns-in_err-columns-2
select-returns-in_err-columns-2 t c = let p = err_from_is_err_and c.from_residual-in_err-columns-2.result c.from_residual-in_err-columns-2.ensures.1 in rw (p.1, p.2) (λ r. select_from_refused c.distinct-once.ensures c.in_ok-columns.ensures (err_of _ _ c.from.ensures c.in_err-columns-2.ensures r))

pub select-returns-in_err-columns-3 : goal.select-returns-in_err-columns-3
select-returns-in_err-columns-3 t c = let p = err_from_is_err_and c.from_residual-in_err-columns-3.result c.from_residual-in_err-columns-3.ensures.1 in rw (p.1, p.2) (λ r. select_conditions_refused c.distinct-once.ensures c.in_ok-columns.ensures (ok_of _ _ c.from.ensures c.in_ok-columns-2.ensures.1) (err_of _ _ c.conditions.ensures c.in_err-columns-3.ensures r))

pub select-returns : goal.select-returns
select-returns t c =
    let h = c.in_ok-columns-2.ensures in
    let i = c.in_ok-columns-3.ensures in
    let p = ap (λ x. x.0) i.0 in
    let q = ap (λ x. x.1) i.0 in
    rw (c.in_ok-select_of.ensures, p, q, h.0) (select_read c.distinct-once.ensures c.in_ok-columns.ensures (ok_of _ _ c.from.ensures h.1) (ok_of _ _ c.conditions.ensures i.1))

pub from-returns-in_default : goal.from-returns-in_default
from-returns-in_default t c = rw c.new.ensures (no_from_read c.in_default.ensures)

pub from-returns-in_err-sources : goal.from-returns-in_err-sources
from-returns-in_err-sources t c = let p = err_from_is_err_and c.from_residual.result c.from_residual.ensures.1 in rw (p.1, p.2) (λ r. from_refused c.in-Some.ensures (err_of _ _ c.joined.ensures (c.in_err-sources.ensures r) r))

pub from-more-init : goal.from-more-init
from-more-init t c = let h = c.in_ok-sources.ensures in from_begin c.in-Some.ensures (ok_of _ _ c.joined.ensures h.1) (rw (h.2, c.new-2.ensures) refl)

pub from-more-preserved : goal.from-more-preserved
from-more-preserved t c = let h = c.in_ok-sources-2.ensures in from_step c.more.invariant c.in-Some-eat.ensures (ok_of _ _ c.joined-in-Some-eat.ensures h.1) h.2

pub from-returns-in_err-sources-2 : goal.from-returns-in_err-sources-2
from-returns-in_err-sources-2 t c = let p = err_from_is_err_and c.from_residual-in_err-sources-2.result c.from_residual-in_err-sources-2.ensures.1 in rw (p.1, p.2) (λ r. from_item_refused c.more.invariant c.in-Some-eat.ensures (err_of _ _ c.joined-in-Some-eat.ensures (c.in_err-sources-2.ensures r) r))

pub from-returns : goal.from-returns
from-returns t c = from_done c.more.invariant c.in_default-eat.ensures

pub joined-returns-in_err-first : goal.joined-returns-in_err-first
joined-returns-in_err-first t c = let p = err_from_is_err_and c.from_residual.result c.from_residual.ensures.1 in rw (p.1, p.2) (λ r. joined_refused (c.in_err-first.ensures r))

pub joined-more-init : goal.joined-more-init
joined-more-init t c = joined_begin c.in_ok-first.ensures c.new-steps.ensures

pub joined-more-preserved : goal.joined-more-preserved
joined-more-preserved t c = let h = c.in_ok-first-2.ensures in rw h.0 (joined_step c.more.invariant c.in-Some.ensures (ok_of _ _ c.step.ensures h.2) h.3)

pub joined-step-requires : goal.joined-step-requires
joined-step-requires t c = let a = kind_shorter c.in-Some.ensures in let b = c.more.invariant.chain.shorter in let d = c.decreases in (omega arith, tt)

pub joined-more-smaller : goal.joined-more-smaller
joined-more-smaller t c = let a = kind_shorter c.in-Some.ensures in let b = (ok_of _ _ c.step.ensures c.in_ok-first-2.ensures.2).shorter in omega arith

pub joined-returns-in_err-first-2 : goal.joined-returns-in_err-first-2
joined-returns-in_err-first-2 t c = let p = err_from_is_err_and c.from_residual-in_err-first-2.result c.from_residual-in_err-first-2.ensures.1 in rw (p.1, p.2) (λ r. join_step_refused c.more.invariant c.in-Some.ensures (err_of _ _ c.step.ensures (c.in_err-first-2.ensures r) r))

pub joined-returns-in_err-first-3 : goal.joined-returns-in_err-first-3
joined-returns-in_err-first-3 t c = let p = err_from_is_err_and c.from_residual-in_err-first-3.result c.from_residual-in_err-first-3.ensures.1 in rw (p.1, p.2) (λ r. join_kind_refused c.more.invariant c.in_default.ensures (if_err_of _ c.no_join.ensures c.in_err-first-3.ensures))

pub joined-returns : goal.joined-returns
joined-returns t c =
    let e = c.in_ok-first-3.ensures.0 in
    let p = ap (λ x. x.0) e in
    let q = ap (λ x. x.1) e in
    rw (c.new.ensures, p, q) (joined_done c.more.invariant c.in_default.ensures)

pub step-returns-in_err-next : goal.step-returns-in_err-next
step-returns-in_err-next t c = let p = err_from_is_err_and c.from_residual.result c.from_residual.ensures.1 in rw (p.1, p.2) (λ r. step_source_refused (c.in_err-next.ensures r))

pub step-returns-in_err-next-2 : goal.step-returns-in_err-next-2
step-returns-in_err-next-2 t c = let p = err_from_is_err_and c.from_residual-in_err-next-2.result c.from_residual-in_err-next-2.ensures.1 in rw (p.1, p.2) (λ r. step_on_refused c.in_ok-next.ensures (err_of _ _ c.clause.ensures c.in_err-next-2.ensures r))

pub step-returns : goal.step-returns
step-returns t c = let h = c.in_ok-next-2.ensures in rw (c.in_ok-step_of.ensures, h.0) (step_read c.in_ok-next.ensures (ok_of _ _ c.clause.ensures h.1))

pub source-returns-in-Some : goal.source-returns-in-Some
source-returns-in-Some t c = let h = c.in_ok-query.ensures in rw h.0 (paren_source_read c.in-Some.ensures c.in_ok-inner.ensures (ok_of _ _ c.alias.ensures h.1))

pub source-returns-in_err-inner : goal.source-returns-in_err-inner
source-returns-in_err-inner t c = let p = err_from_is_err_and c.from_residual.result c.from_residual.ensures.1 in rw (p.1, p.2) (λ r. paren_source_refused c.in-Some.ensures (c.in_err-inner.ensures r))

pub source-returns-in_err-query : goal.source-returns-in_err-query
source-returns-in_err-query t c = let p = err_from_is_err_and c.from_residual-in_err-query.result c.from_residual-in_err-query.ensures.1 in rw (p.1, p.2) (λ r. paren_alias_refused c.in-Some.ensures c.in_ok-inner.ensures (err_of _ _ c.alias.ensures c.in_err-query.ensures r))

pub source-returns-in_default-name : goal.source-returns-in_default-name
source-returns-in_default-name t c = λ r. source_refused c.in_default.ensures c.in_default-name.ensures

pub source-returns-in_err-name-2 : goal.source-returns-in_err-name-2
source-returns-in_err-name-2 t c = let p = err_from_is_err_and c.from_residual-in_err-name-2.result c.from_residual-in_err-name-2.ensures.1 in rw (p.1, p.2) (λ r. table_alias_refused c.in-Some-name.ensures (err_of _ _ c.alias-2.ensures c.in_err-name-2.ensures r))

pub source-returns : goal.source-returns
source-returns t c = let h = c.in_ok-name-2.ensures in rw (h.0, c.in_ok-name.ensures) (table_read c.in-Some-name.ensures (ok_of _ _ c.alias-2.ensures h.1))
