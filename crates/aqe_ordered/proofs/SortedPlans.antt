-- ORDER BY of a SELECT, in the steps that the code takes.
use Rattle.std.proofs.Common.{◌≡◌, ℕ, not, List, [], ◌∷◌, map, length, Ok, Err, refl, ap, ◌∙◌}
use Rattle.aqe_logical.specs.declared.plan.SortKey.{SortKey}
use Rattle.aqe_logical.specs.declared.plan.Logical.{Logical}
use Rattle.aqe_trees.specs.declared.query.SortTree.{SortTree}
use Rattle.aqe_rules.specs.declared.typed.Typed.{Typed}
use Rattle.aqe_rules.specs.Analysis.{Selected, plan_of, hide, sorted_plan}
use Rattle.aqe_rules.specs.Outcomes.{Outcome, upon}
use Rattle.aqe_rules.specs.Readings.{Call}
use Rattle.aqe_rules.specs.Selects.{Output, is_empty}
use Rattle.aqe_rules.specs.Plans as plans
use Rattle.aqe_rules.specs.Plans.{keys_of, hidden_columns, hidden_output, fields_of, shown_columns, sortings, sorted_by, without_hidden}
use Rattle.aqe_ordered.specs.Orders.{Keys, order_of, dropped}

-- hidden columns are dropped where there are some
pub dropped_if : (hidden : List Typed) (outputs : List Output) (plan : Logical) → without_hidden hidden outputs plan ≡ dropped (not (is_empty hidden)) (fields_of outputs) plan
dropped_if [] outputs plan = refl
dropped_if (a ∷ hidden) outputs plan = refl

-- the plan of a SELECT with these keys and hidden columns
abbrev pub with_order : Selected → List Call → Keys → Logical
with_order s calls order =
    dropped (not (is_empty order.1)) (fields_of s.outputs) (sorted_by order.0 (plan_of s calls (map hidden_output order.1)))

order_then : (s : Selected) (calls : List Call) (sorts : List SortTree) (o : Outcome (List plans.Sorting)) →
    upon o (λ all. Ok (without_hidden (hidden_columns all) s.outputs (sorted_by (keys_of (length s.outputs) all sorts) (plan_of s calls (map hidden_output (hidden_columns all)))))) ≡
    upon {T = Keys} (upon o (λ all. Ok (keys_of (length s.outputs) all sorts, hidden_columns all))) (λ order. Ok (with_order s calls order))
order_then s calls sorts (Ok all) =
    ap (λ (p : Logical). Ok p) (dropped_if (hidden_columns all) s.outputs (sorted_by (keys_of (length s.outputs) all sorts) (plan_of s calls (map hidden_output (hidden_columns all)))))
order_then s calls sorts (Err check) = refl

-- first the keys and the hidden columns, then the plan that has them
pub sorted_plan_is : (s : Selected) (calls : List Call) (sorts : List SortTree) →
    sorted_plan s calls sorts ≡ upon (order_of (hide s calls) (length s.outputs) (shown_columns s.outputs) sorts) (λ order. Ok (with_order s calls order))
sorted_plan_is s calls sorts = order_then s calls sorts (sortings (hide s calls) (shown_columns s.outputs) sorts)
