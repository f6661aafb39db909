use Rattle.std.proofs.Common.{rules, arith, length, [], ap, ◌∙◌, ℕ, refl, subst, sym}
use Rattle.std.proofs.lemmas.Result.{IfOk-weaker}
use Rattle.aqe_logical.specs.declared.plan.Logical as logical
use Rattle.aqe_logical.specs.declared.plan.Logical.{the_lemmas}
use Rattle.aqe_settings.specs.Values.{values_of, partitions}
use Rattle.aqe_fitting.specs.InForce.{in_force}
use Rattle.aqe_fitting.specs.Known.{files_of}
use Rattle.aqe_fitting.specs.Ways.{ways_by_sizes}
use Rattle.aqe_placing.specs.declared.standing.Standing.{Standing}
use Rattle.aqe_join_plan.specs.Steps.{chosen, join_plan, join_place}
use Rattle.aqe_planner.specs.Steps.{groups_plan, groups_place, sort_plan}
use Rattle.aqe_planner.proofs.Rows.{at-row, at-scan, at-filter, at-project, at-groups, IfOk-both, count-scan}
use Rattle.aqe_planner.proofs.LimitRows.{at-union, at-limit}
use Rattle.aqe_planner.proofs.SortRows.{at-sort}
use Rattle.aqe_planner.proofs.Below.{Required, below-filter, below-project, below-groups, below-sort, below-limit, below-join, below-union, reach-scan, limit-numbers, not_built}
use Rattle.aqe_planner.proofs.JoinRows.{at-join, of_ok}
use Rattle.aqe_planner.proofs.first.+planned.Goals as goal

pub at-requires : goal.at-requires
at-requires t c = reach-scan (length c.args.estimates.now) c.args.logical.now c.in-Scan.table c.in-Scan.schema c.in-Scan.is c.requires.estimates

pub planned-requires : goal.planned-requires
planned-requires t c = (
  search (rules, the_lemmas),
  below-filter (length c.args.estimates.now) c.args.logical.now c.in-Filter.cond c.in-Filter.child c.get.result.now c.in-Filter.is c.get.ensures
      (c.requires.built, (c.requires.estimates, c.requires.limits)),
)

pub planned-requires-in-Project : goal.planned-requires-in-Project
planned-requires-in-Project t c = (
  search (rules, the_lemmas),
  below-project (length c.args.estimates.now) c.args.logical.now c.in-Project.items c.in-Project.schema c.in-Project.child c.get-in-Project.result.now c.in-Project.is c.get-in-Project.ensures
      (c.requires.built, (c.requires.estimates, c.requires.limits)),
)

pub planned-requires-in-Aggregate : goal.planned-requires-in-Aggregate
planned-requires-in-Aggregate t c = (
  search (rules, the_lemmas),
  below-groups (length c.args.estimates.now) c.args.logical.now c.in-Aggregate.keys c.in-Aggregate.calls c.in-Aggregate.schema c.in-Aggregate.child c.get-in-Aggregate.result.now
      c.in-Aggregate.is c.get-in-Aggregate.ensures (c.requires.built, (c.requires.estimates, c.requires.limits)),
)

pub planned-requires-in-Join : goal.planned-requires-in-Join
planned-requires-in-Join t c = (
  search (rules, the_lemmas),
  subst (Required (length c.args.estimates.now)) (sym c.get-left.ensures)
      (below-join (length c.args.estimates.now) c.args.logical.now c.in-Join.kind c.in-Join.cond c.in-Join.left c.in-Join.right c.in-Join.is
      (c.requires.built, (c.requires.estimates, c.requires.limits))).0,
)

pub planned-requires-in-Join-2 : goal.planned-requires-in-Join-2
planned-requires-in-Join-2 t c = (
  search (rules, the_lemmas),
  subst (Required (length c.args.estimates.now)) (sym c.get-right.ensures)
      (below-join (length c.args.estimates.now) c.args.logical.now c.in-Join.kind c.in-Join.cond c.in-Join.left c.in-Join.right c.in-Join.is
      (c.requires.built, (c.requires.estimates, c.requires.limits))).1,
)

pub planned-requires-in-Union : goal.planned-requires-in-Union
planned-requires-in-Union t c = (
  search (rules, the_lemmas),
  subst (Required (length c.args.estimates.now)) (sym c.get-in-Union.ensures)
      (below-union (length c.args.estimates.now) c.args.logical.now c.in-Union.left c.in-Union.right c.in-Union.is (c.requires.built, (c.requires.estimates, c.requires.limits))).0,
)

pub planned-requires-in-Union-2 : goal.planned-requires-in-Union-2
planned-requires-in-Union-2 t c = (
  search (rules, the_lemmas),
  subst (Required (length c.args.estimates.now)) (sym c.get-in-Union-2.ensures)
      (below-union (length c.args.estimates.now) c.args.logical.now c.in-Union.left c.in-Union.right c.in-Union.is (c.requires.built, (c.requires.estimates, c.requires.limits))).1,
)

pub planned-requires-in-Sort : goal.planned-requires-in-Sort
planned-requires-in-Sort t c = (
  search (rules, the_lemmas),
  below-sort (length c.args.estimates.now) c.args.logical.now c.in-Sort.keys c.in-Sort.child c.get-in-Sort.result.now c.in-Sort.is c.get-in-Sort.ensures
      (c.requires.built, (c.requires.estimates, c.requires.limits)),
)

pub planned-requires-in-Limit : goal.planned-requires-in-Limit
planned-requires-in-Limit t c = (
  search (rules, the_lemmas),
  below-limit (length c.args.estimates.now) c.args.logical.now c.in-Limit.count c.in-Limit.skip c.in-Limit.child c.get-in-Limit.result.now c.in-Limit.is c.get-in-Limit.ensures
      (c.requires.built, (c.requires.estimates, c.requires.limits)),
)

pub limited-requires-clause-count : goal.limited-requires-clause-count
limited-requires-clause-count t c = (limit-numbers c.args.logical.now c.in-Limit.count c.in-Limit.skip c.in-Limit.child c.in-Limit.is c.requires.limits).0

pub limited-requires-clause-skip : goal.limited-requires-clause-skip
limited-requires-clause-skip t c = (limit-numbers c.args.logical.now c.in-Limit.count c.in-Limit.skip c.in-Limit.child c.in-Limit.is c.requires.limits).1

pub unreachable-requires : goal.unreachable-requires
unreachable-requires t c = grind (arith, not_built, c.in-Empty.is, c.requires.built)

pub returns-in-OneRow : goal.returns-in-OneRow
returns-in-OneRow t c =
    at-row (ways_by_sizes c.args.estimates.now [] (in_force (values_of c.args.settings.now))) (partitions (values_of c.args.settings.now)) (files_of c.args.estimates.now) c.args.logical.now c.in-OneRow.is

pub returns-in-Scan : goal.returns-in-Scan
returns-in-Scan t c =
    at-scan (ways_by_sizes c.args.estimates.now [] (in_force (values_of c.args.settings.now))) (partitions (values_of c.args.settings.now)) (files_of c.args.estimates.now) c.args.logical.now c.in-Scan.table
    c.at.result.now.files c.in-Scan.schema c.in-Scan.is
    (count-scan c.args.estimates.now c.in-Scan.table c.at.result.now
    (reach-scan (length c.args.estimates.now) c.args.logical.now c.in-Scan.table c.in-Scan.schema c.in-Scan.is c.requires.estimates) c.at.ensures)

pub returns-in_ok-from-in-Filter : goal.returns-in_ok-from-in-Filter
returns-in_ok-from-in-Filter t c =
    IfOk-weaker c.filtered.result _ _ (λ (s : Standing) h.
    at-filter (ways_by_sizes c.args.estimates.now [] (in_force (values_of c.args.settings.now))) (partitions (values_of c.args.settings.now)) (files_of c.args.estimates.now) c.args.logical.now
    c.get.result.now c.in-Filter.cond c.in_ok-from-in-Filter.from.plan s.plan c.in_ok-from-in-Filter.from.place s.place
    (search rules) c.in_ok-from-in-Filter.ensures h.0 h.1) c.filtered.ensures

pub returns-in_ok-from-in-Project : goal.returns-in_ok-from-in-Project
returns-in_ok-from-in-Project t c =
    IfOk-weaker c.projected.result _ _ (λ (s : Standing) h.
    at-project (ways_by_sizes c.args.estimates.now [] (in_force (values_of c.args.settings.now))) (partitions (values_of c.args.settings.now)) (files_of c.args.estimates.now) c.args.logical.now
    c.get-in-Project.result.now c.in-Project.items c.in-Project.schema c.in_ok-from-in-Project.from.plan s.plan c.in_ok-from-in-Project.from.place s.place
    (search rules) c.in_ok-from-in-Project.ensures h.0 h.1) c.projected.ensures

pub returns-in_ok-from-in-Aggregate : goal.returns-in_ok-from-in-Aggregate
returns-in_ok-from-in-Aggregate t c =
    IfOk-both c.grouped.result _ _ _ (λ (s : Standing) h k.
    at-groups (ways_by_sizes c.args.estimates.now [] (in_force (values_of c.args.settings.now))) (partitions (values_of c.args.settings.now)) (files_of c.args.estimates.now) c.args.logical.now
    c.get-in-Aggregate.result.now c.in-Aggregate.keys c.in-Aggregate.calls c.in-Aggregate.schema c.in_ok-from-in-Aggregate.from.plan s.plan c.in_ok-from-in-Aggregate.from.place s.place
    (search rules) c.in_ok-from-in-Aggregate.ensures
    (h ∙ ap (λ (n : ℕ). groups_plan n c.in-Aggregate.keys c.in-Aggregate.calls c.in_ok-from-in-Aggregate.from.plan c.in_ok-from-in-Aggregate.from.place) c.exchange_partitions.ensures.number)
    (k ∙ ap (λ (n : ℕ). groups_place n c.in-Aggregate.keys c.in_ok-from-in-Aggregate.from.plan c.in_ok-from-in-Aggregate.from.place) c.exchange_partitions.ensures.number))
    c.grouped.ensures.plan c.grouped.ensures.place

pub returns-in_ok-join-in-Join : goal.returns-in_ok-join-in-Join
returns-in_ok-join-in-Join t c =
    let join = of_ok c.joining.result _ c.in_ok-join-in-Join.join c.joining.ensures c.in_ok-join-in-Join.ensures.first in
    IfOk-both c.joined.result _ _ _ (λ (s : Standing) h k.
    at-join (ways_by_sizes c.args.estimates.now [] (in_force (values_of c.args.settings.now))) (partitions (values_of c.args.settings.now)) (files_of c.args.estimates.now) c.args.logical.now
    c.get-left.result.now c.get-right.result.now (chosen c.in-Join.kind c.get-left.result.now c.get-right.result.now c.args.estimates.now (values_of c.args.settings.now)) c.in-Join.kind c.in-Join.cond
    c.in_ok-join-in-Join.left.plan c.in_ok-join-in-Join.right.plan s.plan c.in_ok-join-in-Join.left.place c.in_ok-join-in-Join.right.place s.place
    (c.in-Join.is ∙ (λ i. logical.Join c.in-Join.kind c.in-Join.cond (sym c.get-left.ensures i) (sym c.get-right.ensures i)))
    (of_ok c.planned-in-Join.result _ c.in_ok-join-in-Join.left c.planned-in-Join.ensures c.in_ok-join-in-Join.ensures.second)
    (of_ok c.planned-in-Join-2.result _ c.in_ok-join-in-Join.right c.planned-in-Join-2.ensures c.in_ok-join-in-Join.ensures.third)
    refl
    (h ∙ (λ i. join_plan (c.exchange_partitions-in-Join.ensures.number i) (join i) c.in_ok-join-in-Join.left.plan c.in_ok-join-in-Join.left.place c.in_ok-join-in-Join.right.plan
    c.in_ok-join-in-Join.right.place))
    (k ∙ (λ i. join_place (join i) c.in_ok-join-in-Join.left.place c.in_ok-join-in-Join.right.place)))
    c.joined.ensures.plan c.joined.ensures.place

pub returns-in_ok-left-in-Union : goal.returns-in_ok-left-in-Union
returns-in_ok-left-in-Union t c =
    IfOk-both c.united.result _ _ _ (λ (s : Standing) h k.
    at-union (ways_by_sizes c.args.estimates.now [] (in_force (values_of c.args.settings.now))) (partitions (values_of c.args.settings.now)) (files_of c.args.estimates.now) c.args.logical.now
    c.in-Union.left c.in-Union.right c.in_ok-left-in-Union.left.plan c.in_ok-left-in-Union.right.plan s.plan c.in_ok-left-in-Union.left.place c.in_ok-left-in-Union.right.place s.place
    c.in-Union.is (search rules) (search rules) h k)
    c.united.ensures.plan c.united.ensures.place

pub returns-in_ok-from-in-Sort : goal.returns-in_ok-from-in-Sort
returns-in_ok-from-in-Sort t c =
    let below = below-sort (length c.args.estimates.now) c.args.logical.now c.in-Sort.keys c.in-Sort.child c.get-in-Sort.result.now c.in-Sort.is c.get-in-Sort.ensures
    (c.requires.built, (c.requires.estimates, c.requires.limits)) in
    IfOk-both c.sorted.result _ _ _ (λ (s : Standing) h k.
    at-sort (ways_by_sizes c.args.estimates.now [] (in_force (values_of c.args.settings.now))) (partitions (values_of c.args.settings.now)) (files_of c.args.estimates.now) c.args.logical.now
    c.get-in-Sort.result.now c.in-Sort.keys c.in_ok-from-in-Sort.from.plan s.plan c.in_ok-from-in-Sort.from.place s.place
    (search rules) below.0 c.in_ok-from-in-Sort.ensures
    (h ∙ ap (λ (n : ℕ). sort_plan n c.in-Sort.keys c.in_ok-from-in-Sort.from.plan c.in_ok-from-in-Sort.from.place) c.exchange_partitions-in-Sort.ensures.number) k)
    c.sorted.ensures.plan c.sorted.ensures.place

pub returns-in_ok-from-in-Limit : goal.returns-in_ok-from-in-Limit
returns-in_ok-from-in-Limit t c =
    IfOk-both c.limited.result _ _ _ (λ (s : Standing) h k.
    at-limit (ways_by_sizes c.args.estimates.now [] (in_force (values_of c.args.settings.now))) (partitions (values_of c.args.settings.now)) (files_of c.args.estimates.now) c.args.logical.now
    c.get-in-Limit.result.now c.in-Limit.count c.in-Limit.skip c.in_ok-from-in-Limit.from.plan s.plan c.in_ok-from-in-Limit.from.place s.place
    (search rules) c.in_ok-from-in-Limit.ensures h k)
    c.limited.ensures.plan c.limited.ensures.place
