-- The ORDER BY of a SELECT, in the steps that the code takes.
use Rattle.std.specs.Prelude.{cond, not, List, [], map, length, Ok}
use Rattle.aqe_logical.specs.declared.plan.Logical.{Logical}
use Rattle.aqe_trees.specs.declared.expression.OrTree.{OrTree}
use Rattle.aqe_trees.specs.declared.query.SortTree.{SortTree}
use Rattle.aqe_rules.specs.declared.typed.Typed.{Typed}
use Rattle.aqe_rules.specs.Analysis.{hide}
use Rattle.aqe_rules.specs.Expressions.{read}
use Rattle.aqe_rules.specs.Limits.{within_limits}
use Rattle.aqe_rules.specs.Outcomes.{Outcome, upon}
use Rattle.aqe_rules.specs.Plans.{no_hidden, shown_columns, fields_of, hidden_output, sorted_by}
use Rattle.aqe_rules.specs.Readings.{Call}
use Rattle.aqe_rules.specs.Selects.{is_empty}
use Rattle.aqe_typing.specs.Calls.{calls_seen}
use Rattle.aqe_ordered.specs.Orders.{Keys, order_of, dropped}
use Rattle.aqe_outputs.specs.declared.outputs.Shown.{Shown}
use Rattle.aqe_outputs.specs.Building.{built_by}
use Rattle.aqe_outputs.specs.Shown.{outputs_seen, place_of}
use Rattle.aqe_select.specs.declared.clauses.Clauses.{Clauses}
use Rattle.aqe_select.specs.declared.orders.HiddenOf.{HiddenOf}
use Rattle.aqe_select.specs.declared.plans.Selected.{Selected}
use Rattle.aqe_select.specs.Clauses.{selected_over, plan_from}
use Rattle.aqe_select.specs.Scopes.{calls_over}

-- a hidden column is read where aggregate calls may stand, and then built over the groups
abbrev pub hidden_by : HiddenOf → OrTree → Outcome Typed
hidden_by h value =
    cond h.distinct (no_hidden h.outputs.now value) (upon (read value (place_of h.shown.now)).value (built_by h.building))

-- the keys of an ORDER BY and its hidden columns
abbrev pub order_over : Shown → Selected → List SortTree → Outcome Keys
order_over s t sorts =
    order_of (hide (selected_over s.columns t) (calls_seen s.calls)) (length (outputs_seen t.outputs)) (shown_columns (outputs_seen t.outputs)) sorts

-- the plan with this order
abbrev pub with_order : Selected → List Call → Keys → Logical
with_order t calls order =
    dropped (not (is_empty order.1)) (fields_of (outputs_seen t.outputs)) (sorted_by order.0 (plan_from t calls (map hidden_output order.1)))

-- the plan whose limits count: without ORDER BY and its calls
abbrev pub plan_before : Clauses → Shown → Selected → Logical
plan_before c s t = plan_from t (calls_over t.is_grouped s.columns c []) []

-- what is left of the walk once the clauses are read
abbrev pub planned : Clauses → Shown → Selected → Outcome Logical
planned c s t =
    upon (within_limits (plan_before c s t)) (λ plan.
    upon (order_over s t c.sorts.now) (λ order. Ok (with_order t (calls_seen s.calls) order)))
