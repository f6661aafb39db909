-- The plan of a SELECT from its clauses to its ORDER BY.
use Rattle.std.proofs.Common.{◌≡◌, Bool, true, false, List, [], refl, ap, sym, subst, ◌∙◌, Ok}
use Rattle.aqe_logical.specs.declared.plan.Logical.{Logical}
use Rattle.aqe_trees.specs.declared.query.SortTree.{SortTree}
use Rattle.aqe_rules.specs.declared.fault.AnalysisFault.{AnalysisFault}
use Rattle.aqe_rules.specs.declared.names.Named.{Named}
use Rattle.aqe_rules.specs.Analysis as analysis
use Rattle.aqe_rules.specs.Analysis.{select_parts, sorted_plan, calls_if, hide}
use Rattle.aqe_rules.specs.Faults.{Fails}
use Rattle.aqe_rules.specs.Limits.{within_limits}
use Rattle.aqe_rules.specs.Outcomes.{Outcome, upon}
use Rattle.aqe_rules.specs.Readings.{Call}
use Rattle.aqe_rules.specs.Sources.{Item, from_of, columns_of}
use Rattle.aqe_typing.specs.Calls.{calls_seen}
use Rattle.aqe_typing.proofs.StepLemmas.{upon_fails}
use Rattle.aqe_ordered.proofs.SortedPlans.{sorted_plan_is}
use Rattle.aqe_sources.specs.Seen.{items_seen}
use Rattle.aqe_outputs.specs.declared.outputs.Shown.{Shown}
use Rattle.aqe_select.specs.declared.clauses.Clauses.{Clauses}
use Rattle.aqe_select.specs.declared.plans.Selected.{Selected}
use Rattle.aqe_select.specs.Clauses.{selected_over, plan_from, is_grouped, parts_of, select_of}
use Rattle.aqe_select.specs.Orders.{planned}
use Rattle.aqe_select.specs.Scopes.{calls_over, Shows}

-- the calls, over the columns of the items
calls-are : (c : Clauses) (g : Bool) (items : List Item) (sorts : List SortTree) → calls_if g items c.list.now c.having.now sorts ≡ calls_over g (columns_of items) c sorts
calls-are c true items sorts = refl
calls-are c false items sorts = refl

module _ (c : Clauses) (g : Bool) (s : Shown) (plan : Logical) (e : g ≡ is_grouped c) (shows : Shows c g s.items s) where
  -- the calls with those of an ORDER BY, where the query is as grouped as this
  some-calls : (h : Bool) (sorts : List SortTree) → calls_if h (items_seen s.items) c.list.now c.having.now sorts ≡ calls_over h s.columns c sorts
  some-calls h sorts = calls-are c h (items_seen s.items) sorts ∙ ap (λ (columns : List Named). calls_over h columns c sorts) (sym shows.columns)

  all-calls : (h : Bool) → h ≡ g → calls_if h (items_seen s.items) c.list.now c.having.now c.sorts.now ≡ calls_seen s.calls
  all-calls h is = some-calls h c.sorts.now ∙ ap (λ (x : Bool). calls_over x s.columns c c.sorts.now) is ∙ sym shows.calls

  -- the clauses
  abbrev read_with : Bool → Bool → List Call → Outcome analysis.Selected
  read_with has_from grouped calls = select_parts c.distinct c.list.now has_from c.filter.now c.group.now c.having.now grouped calls (from_of plan (items_seen s.items))

  abbrev walked : Outcome analysis.Selected
  walked = read_with c.has_from (is_grouped c) (calls_if (is_grouped c) (items_seen s.items) c.list.now c.having.now c.sorts.now)

  parts-are : walked ≡ parts_of c g s plan
  parts-are =
      ap (λ (calls : List Call). read_with c.has_from (is_grouped c) calls) (all-calls (is_grouped c) (sym e)) ∙
      ap (λ (h : Bool). read_with c.has_from h (calls_seen s.calls)) (sym e) ∙ ap (λ (b : Bool). read_with b g (calls_seen s.calls)) (sym shows.has_from)

  -- what is left of the walk
  abbrev left : analysis.Selected → Outcome Logical
  left t =
      upon (within_limits (analysis.plan_of t (calls_if t.is_grouped (items_seen s.items) c.list.now c.having.now []) [])) (λ plan.
      sorted_plan t (calls_if t.is_grouped (items_seen s.items) c.list.now c.having.now c.sorts.now) c.sorts.now)

  left-is : (t : Selected) → t.is_grouped ≡ g → left (selected_over s.columns t) ≡ planned c s t
  left-is t is =
      ap (λ (calls : List Call). upon (within_limits (plan_from t calls [])) (λ plan.
      sorted_plan (selected_over s.columns t) (calls_if t.is_grouped (items_seen s.items) c.list.now c.having.now c.sorts.now) c.sorts.now)) (some-calls t.is_grouped []) ∙
      ap (λ (calls : List Call). upon (within_limits (plan_from t (calls_over t.is_grouped s.columns c []) [])) (λ plan.
      sorted_plan (selected_over s.columns t) calls c.sorts.now)) (all-calls t.is_grouped is) ∙
      ap (λ (o : Outcome Logical). upon (within_limits (plan_from t (calls_over t.is_grouped s.columns c []) [])) (λ plan. o))
      (sorted_plan_is (selected_over s.columns t) (calls_seen s.calls) c.sorts.now)

  pub select-made : (t : Selected) → t.is_grouped ≡ g → parts_of c g s plan ≡ Ok (selected_over s.columns t) → select_of c (from_of plan (items_seen s.items)) ≡ planned c s t
  select-made t is there = ap (λ (o : Outcome analysis.Selected). upon o left) (parts-are ∙ there) ∙ left-is t is

  pub select-fails : (f : AnalysisFault) → Fails f (parts_of c g s plan) → Fails f (select_of c (from_of plan (items_seen s.items)))
  select-fails f h = upon_fails f walked left (subst (λ (o : Outcome analysis.Selected). Fails f o) (sym parts-are) h)
