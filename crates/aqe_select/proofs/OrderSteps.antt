-- The ORDER BY of a SELECT, one step at a time.
use Rattle.std.proofs.Common.{◌≡◌, ℕ, Bool, true, false, List, [], ◌∷◌, length, Result, Ok, Err, refl, ap, sym, subst, ◌∙◌}
use Rattle.std.specs.Prelude.{MatchResult, nat_le, cond}
use Rattle.aqe_logical.specs.declared.plan.Logical.{Logical}
use Rattle.aqe_logical.specs.WellFormed.{column_limit}
use Rattle.aqe_trees.specs.declared.expression.OrTree.{OrTree}
use Rattle.aqe_trees.specs.declared.query.SortTree.{SortTree}
use Rattle.aqe_rules.specs.declared.fault.AnalysisFault.{AnalysisFault}
use Rattle.aqe_rules.specs.declared.names.Named.{Named}
use Rattle.aqe_rules.specs.declared.typed.Typed.{Typed}
use Rattle.aqe_rules.specs.Expressions.{read}
use Rattle.aqe_rules.specs.Faults.{Says, Fails}
use Rattle.aqe_rules.specs.Limits.{within_limits, operator_count, operator_limit, most_columns}
use Rattle.aqe_rules.specs.Outcomes.{Outcome, upon, provided, too_many_operators, too_many_columns}
use Rattle.aqe_rules.specs.Plans.{no_hidden, shown_columns}
use Rattle.aqe_rules.specs.Readings.{Place, Call}
use Rattle.aqe_rules.specs.Selects.{built, is_empty}
use Rattle.aqe_typing.specs.Calls.{calls_seen}
use Rattle.aqe_typing.proofs.StepLemmas.{upon_fails, first_fails, one_there}
use Rattle.aqe_ordered.specs.declared.order.Order.{Order}
use Rattle.aqe_ordered.specs.Orders.{order_of, order_seen}
use Rattle.aqe_sources.specs.Given.{Gives}
use Rattle.aqe_sources.specs.Pairs.{both_of}
use Rattle.aqe_sources.specs.Seen.{SaysSeen}
use Rattle.aqe_outputs.specs.declared.outputs.Shown.{Shown}
use Rattle.aqe_outputs.specs.Building.{built_by}
use Rattle.aqe_outputs.specs.Shown.{outputs_seen, place_of}
use Rattle.aqe_outputs.proofs.OutputSteps.{seen-length}
use Rattle.aqe_select.specs.declared.clauses.Clauses.{Clauses}
use Rattle.aqe_select.specs.declared.orders.HiddenOf.{HiddenOf}
use Rattle.aqe_select.specs.declared.plans.Selected.{Selected}
use Rattle.aqe_select.specs.Clauses.{plan_from}
use Rattle.aqe_select.specs.Orders.{hidden_by, order_over, with_order, plan_before, planned}
use Rattle.aqe_select.specs.Scopes.{calls_over}

-- an expression that is read and then built
module _ (built : Typed → Outcome Typed) (place : Place) (value : OrTree) (a : Result Typed AnalysisFault) (h : Says a (read value place).value) where
  pub reading_fails : (f : AnalysisFault) → a ≡ Err f → Fails f (upon (read value place).value built)
  reading_fails f e = first_fails built a (read value place).value f e h

  pub reading_built : (m : Typed) (r : Result Typed AnalysisFault) → a ≡ Ok m → Says r (built m) → Says r (upon (read value place).value built)
  reading_built m r e s = one_there built a r (read value place).value m e h s

pub ruleset column_steps = (reading_fails, reading_built)

-- a hidden column, where DISTINCT allows none and where one may stand
module _ (h : HiddenOf) (value : OrTree) (r : Result Typed AnalysisFault) where
  pub none_hidden : h.distinct ≡ true → Says r (no_hidden h.outputs.now value) → Says r (hidden_by h value)
  none_hidden e s = rw e s

  pub one_hidden : h.distinct ≡ false → Says r (upon (read value (place_of h.shown.now)).value (built_by h.building)) → Says r (hidden_by h value)
  one_hidden e s = rw e s

pub ruleset hidden_steps = (none_hidden, one_hidden)

-- the order of these output columns
pub order_says : (s : Shown) (t : Selected) (sorts : List SortTree) (outputs : List Named) (n : ℕ) (r : Result Order AnalysisFault) → outputs ≡ shown_columns (outputs_seen t.outputs) → n ≡ length t.outputs →
    SaysSeen order_seen r (order_of (λ value. cond t.distinct (no_hidden outputs value) (upon (read value (place_of s)).value (built t.is_grouped t.keys s.columns))) n outputs sorts) →
    SaysSeen order_seen r (order_over s t sorts)
order_says s t sorts outputs n r e f h =
    subst (λ (m : ℕ). SaysSeen order_seen r
    (order_of (λ value. cond t.distinct (no_hidden (shown_columns (outputs_seen t.outputs)) value) (upon (read value (place_of s)).value (built t.is_grouped t.keys s.columns))) m
    (shown_columns (outputs_seen t.outputs)) sorts)) (f ∙ sym (seen-length t.outputs))
    (subst (λ (cs : List Named). SaysSeen order_seen r
    (order_of (λ value. cond t.distinct (no_hidden cs value) (upon (read value (place_of s)).value (built t.is_grouped t.keys s.columns))) n cs sorts)) e h)

-- the same, from what the calls say of slices
pub slices_order : (s : Shown) (t : Selected) (sorts : List SortTree) (keys : List Typed) (columns outputs : List Named) (n : ℕ) (r : Result Order AnalysisFault) → keys ≡ t.keys → columns ≡ s.columns →
    outputs ≡ shown_columns (outputs_seen t.outputs) → n ≡ length t.outputs →
    SaysSeen order_seen r (order_of (λ value. cond t.distinct (no_hidden outputs value) (upon (read value (place_of s)).value (built t.is_grouped keys columns))) n outputs sorts) →
    SaysSeen order_seen r (order_over s t sorts)
slices_order s t sorts keys columns outputs n r d g e f h =
    order_says s t sorts outputs n r e f
    (subst (λ (ks : List Typed). SaysSeen order_seen r
    (order_of (λ value. cond t.distinct (no_hidden outputs value) (upon (read value (place_of s)).value (built t.is_grouped ks s.columns))) n outputs sorts)) d
    (subst (λ (cs : List Named). SaysSeen order_seen r
    (order_of (λ value. cond t.distinct (no_hidden outputs value) (upon (read value (place_of s)).value (built t.is_grouped keys cs))) n outputs sorts)) g h))

-- the limits let a plan pass as it is
limits-pass : (a b : Bool) (p x : Logical) → provided a too_many_operators (provided b too_many_columns (Ok p)) ≡ Ok x → provided a too_many_operators (provided b too_many_columns (Ok p)) ≡ Ok p
limits-pass true true p x e = refl
limits-pass true false p x e = absurd (cc e)
limits-pass false b p x e = absurd (cc e)

module _ (p q : Logical) (is : p ≡ q) (r : Result Logical AnalysisFault) (h : Says r (within_limits p)) where
  pub limits_say : Says r (within_limits q)
  limits_say = subst (λ (x : Logical). Says r (within_limits x)) is h

  pub limits_there : (x : Logical) → r ≡ Ok x → within_limits q ≡ Ok q
  limits_there x e =
      let there : within_limits q ≡ Ok x = subst (λ (o : Result Logical AnalysisFault). Says o (within_limits q)) e limits_say in
      limits-pass (nat_le (operator_count q) operator_limit) (nat_le (most_columns q) column_limit) q x there

  pub limits_fail : (f : AnalysisFault) → r ≡ Err f → Fails f (within_limits q)
  limits_fail f e = subst (λ (o : Result Logical AnalysisFault). Says o (within_limits q)) e limits_say

-- the whole, where both parts are there
module _ (c : Clauses) (s : Shown) (t : Selected) where
  abbrev last : Logical → Outcome Logical
  last plan = upon (order_over s t c.sorts.now) (λ order. Ok (with_order t (calls_seen s.calls) order))

  in-order : (p : Logical) (r : Result Logical AnalysisFault) → Gives r (λ q. q ≡ p) → Says r (Ok p)
  in-order p (Ok q) h = rw h refl
  in-order p (Err f) h = h

  pub ordered-say : (a : Result (Unit {0}) AnalysisFault) (b : Result Order AnalysisFault) (r : Result Logical AnalysisFault) → SaysSeen (λ _. plan_before c s t) a (within_limits (plan_before c s t)) →
      SaysSeen order_seen b (order_over s t c.sorts.now) → MatchResult (both_of a b) (λ o. Gives r (λ p. p ≡ with_order t (calls_seen s.calls) (order_seen o.1))) (λ f. r ≡ Err f) → Says r (planned c s t)
  ordered-say (Ok u) (Ok order) r h k g = rw (h, k) (in-order (with_order t (calls_seen s.calls) (order_seen order)) r g)
  ordered-say (Ok u) (Err f) r h k g = rw (g, h) (upon_fails f (order_over s t c.sorts.now) (λ order. Ok (with_order t (calls_seen s.calls) order)) k)
  ordered-say (Err f) b r h k g = rw g (upon_fails f (within_limits (plan_before c s t)) last h)

  -- with no ORDER BY the plan is the one whose limits count
  abbrev planned_by : List SortTree → List Call → Outcome Logical
  planned_by sorts calls =
      upon (within_limits (plan_from t calls [])) (λ plan.
      upon (order_over s t sorts) (λ order. Ok (with_order t (calls_seen s.calls) order)))

  limits-keep : (a b : Bool) (plan : Logical) →
      upon (provided a too_many_operators (provided b too_many_columns (Ok plan))) (λ kept. Ok plan) ≡ provided a too_many_operators (provided b too_many_columns (Ok plan))
  limits-keep true true plan = refl
  limits-keep true false plan = refl
  limits-keep false b plan = refl

  without-order : planned_by [] (calls_seen s.calls) ≡ within_limits (plan_from t (calls_seen s.calls) [])
  without-order =
      limits-keep (nat_le (operator_count (plan_from t (calls_seen s.calls) [])) operator_limit) (nat_le (most_columns (plan_from t (calls_seen s.calls) [])) column_limit) (plan_from t (calls_seen s.calls) [])

  no-sorts : (sorts : List SortTree) → is_empty sorts ≡ true → sorts ≡ []
  no-sorts [] e = refl
  no-sorts (first ∷ rest) e = absurd (cc e)

  pub unordered-say : (r : Result Logical AnalysisFault) → is_empty c.sorts.now ≡ true → calls_seen s.calls ≡ calls_over t.is_grouped s.columns c c.sorts.now →
      Says r (within_limits (plan_from t (calls_seen s.calls) [])) → Says r (planned c s t)
  unordered-say r e is h =
      let empty : c.sorts.now ≡ [] = no-sorts c.sorts.now e in
      let calls : calls_seen s.calls ≡ calls_over t.is_grouped s.columns c [] = is ∙ ap (λ (sorts : List SortTree). calls_over t.is_grouped s.columns c sorts) empty in
      subst (λ (o : Outcome Logical). Says r o)
      (sym without-order ∙ ap (planned_by []) calls ∙ ap (λ (sorts : List SortTree). planned_by sorts (calls_over t.is_grouped s.columns c [])) (sym empty)) h
