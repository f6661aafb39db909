use Rattle.std.proofs.Common.{rules, ◌≡◌, [], map, refl, sym, subst}
use Rattle.std.specs.Prelude.{fold}
use Rattle.aqe_logical.specs.declared.plan.Logical.{Logical}
use Rattle.aqe_rules.specs.Analysis as analysis
use Rattle.aqe_rules.specs.Faults.{Says}
use Rattle.aqe_rules.specs.Outcomes.{Outcome}
use Rattle.aqe_rules.specs.QueryTrees.{made_of_union, made_of_core, made_of_joined, made_of_source}
use Rattle.aqe_rules.specs.Sources.{From, from_all}
use Rattle.aqe_sources.specs.Catalogs.{seen}
use Rattle.aqe_sources.specs.Seen.{from_seen, SaysSeen}
use Rattle.aqe_analysis.proofs.QuerySteps.{query-walk, union-walk, select-walk, joined-walk, from-walk, step-walk, core_more, cross_more, join_more}
use Rattle.aqe_analysis.proofs.Turns.{begun, turned, ended}
use Rattle.aqe_analysis.proofs.analysis.+query.Goals as goal

pub analyse-returns : goal.analyse-returns
analyse-returns t c =
    let tables = seen c.args.catalog.now in
    let p = c.query_parts-limit.result in
    subst (λ (o : Outcome Logical). Says c.within_cut.result o) (sym (query-walk c.args.query.now p.0.now p.1.now p.2 p.3 tables c.query_parts-limit.ensures))
    (c.within_cut.ensures (made_of_union analysis.rules p.0.now tables p.1.now) (search rules))

pub selected-returns : goal.selected-returns
selected-returns t c =
    let tables = seen c.args.catalog.now in
    let p = c.select_parts-distinct.result in
    subst (λ (o : Outcome Logical). Says c.select.result o)
    (sym (select-walk c.args.tree.now p.0 p.1.now p.2.now p.3.now p.4.now p.5.now c.has_from.result tables c.args.order.now c.select_parts-distinct.ensures c.has_from.ensures))
    (c.select.ensures (from_all tables (map (made_of_joined analysis.rules) p.2.now)) c.from.ensures)

pub union-more-init : goal.union-more-init
union-more-init t c =
    let tables = seen c.args.catalog.now in
    let p = c.union_parts.result in
    let first = made_of_core analysis.rules p.0.now tables c.core_order.result.now in (
      fold (core_more tables) first p.1.now,
      begun (λ (q : Logical). q) (core_more tables) p.1.now first _ c.core-plan.ensures refl,
      union-walk c.args.tree.now p.0.now p.1.now c.is_lone-lone.result c.core_order.result.now tables c.args.order.now c.union_parts.ensures c.is_lone-lone.ensures c.core_order.ensures,
    )

pub union-more-preserved : goal.union-more-preserved
union-more-preserved t c =
    let tables = seen c.args.catalog.now in
    let p = c.union_parts.result in (
      c.more.invariant.0,
      turned (λ (q : Logical). q) (core_more tables) p.1.now c.more.next-index c.next-item.result _ _ c.more-test.true c.next-item.is c.more.invariant.1
          (λ o h. c.united_next-plan.ensures o (made_of_core analysis.rules c.next-item.result.1 tables []) h c.core.ensures),
      c.more.invariant.2,
    )

pub union-returns : goal.union-returns
union-returns t c =
    let tables = seen c.args.catalog.now in
    let p = c.union_parts.result in
    subst (λ (o : Outcome Logical). Says c.union_in_order.result o) (sym c.more.invariant.2)
    (c.union_in_order.ensures c.more.invariant.0 (ended (λ (q : Logical). q) (core_more tables) p.1.now c.more.next-index _ c.more-test.false c.more.invariant.1))

pub from-more-init : goal.from-more-init
from-more-init t c =
    let tables = seen c.args.catalog.now in
    begun from_seen (cross_more tables) c.in-Some.rest.now (made_of_joined analysis.rules c.in-Some.first.now tables) _ c.joined-plan.ensures
    (from-walk c.args.sources.now c.in-Some.first.now c.in-Some.rest.now tables (search rules))

pub from-more-preserved : goal.from-more-preserved
from-more-preserved t c =
    let tables = seen c.args.catalog.now in
    turned from_seen (cross_more tables) c.in-Some.rest.now c.more.next-index c.next-item.result _ _ c.more-test.true c.next-item.is c.more.invariant
    (λ o h. c.cross_next-plan.ensures o (made_of_joined analysis.rules c.next-item.result tables) h c.joined.ensures)

pub from-returns : goal.from-returns
from-returns t c =
    let tables = seen c.args.catalog.now in
    ended from_seen (cross_more tables) c.in-Some.rest.now c.more.next-index _ c.more-test.false c.more.invariant

pub joined-steps-init : goal.joined-steps-init
joined-steps-init t c =
    let tables = seen c.args.catalog.now in
    let p = c.joined_parts.result in
    begun from_seen (join_more tables) p.1.now (made_of_source analysis.rules p.0.now tables) _ c.source-plan.ensures (joined-walk c.args.tree.now p.0.now p.1.now tables c.joined_parts.ensures)

pub joined-steps-preserved : goal.joined-steps-preserved
joined-steps-preserved t c =
    let tables = seen c.args.catalog.now in
    let p = c.joined_parts.result in
    let s = c.step_parts-kind.result in
    turned from_seen (join_more tables) p.1.now c.steps.step-index c.step-item.result _ _ c.steps-test.true c.step-item.is c.steps.invariant
    (λ o h. subst (λ (x : Outcome From). SaysSeen from_seen c.join_next-plan.result x) (sym (step-walk c.step-item.result s.0 s.1.now s.2.now tables o c.step_parts-kind.ensures))
    (c.join_next-plan.ensures o (made_of_source analysis.rules s.1.now tables) h c.source.ensures))

pub joined-returns : goal.joined-returns
joined-returns t c =
    let tables = seen c.args.catalog.now in
    let p = c.joined_parts.result in
    ended from_seen (join_more tables) p.1.now c.steps.step-index _ c.steps-test.false c.steps.invariant
