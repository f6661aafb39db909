-- The keys of an ORDER BY with the hidden columns that they want: all of them, and one more at a time.
use Rattle.std.specs.Prelude.{ℕ, ◌+◌, Bool, true, false, cond, List, [], ◌∷◌, ◌++◌, length, None, Ok}
use Rattle.aqe_values.specs.declared.schema.Field.{Field}
use Rattle.aqe_expr.specs.declared.expr.Expr.{Expr, Column}
use Rattle.aqe_logical.specs.declared.plan.SortKey.{SortKey}
use Rattle.aqe_logical.specs.declared.plan.Logical.{Logical}
use Rattle.aqe_logical.specs.Shapes.{projected}
use Rattle.aqe_logical.specs.Columns.{schema_of}
use Rattle.aqe_trees.specs.declared.expression.OrTree.{OrTree}
use Rattle.aqe_trees.specs.declared.query.SortTree.{SortTree}
use Rattle.aqe_rules.specs.Expressions.{read, alone_of}
use Rattle.aqe_rules.specs.Outcomes.{Outcome, upon}
use Rattle.aqe_rules.specs.declared.typed.Typed.{Typed}
use Rattle.aqe_rules.specs.declared.names.Named.{Named}
use Rattle.aqe_rules.specs.Sources.{numbered, over}
use Rattle.aqe_rules.specs.Selects.{at_position}
use Rattle.aqe_rules.specs.Plans as plans
use Rattle.aqe_rules.specs.Plans.{shown, hidden, shown_value, hidden_value, is_over, key, keys_of, hidden_columns, no_hidden, columns_up_to}
use Rattle.aqe_ordered.specs.declared.sorting.Sorting.{Sorting}
use Rattle.aqe_ordered.specs.declared.sorting.Sorting.TheVariants as code
use Rattle.aqe_ordered.specs.declared.order.Order.{Order}

-- what the program has of them, as the rules see it
abbrev pub sorting_seen : Sorting → plans.Sorting
sorting_seen (code.Shown expr) = shown expr
sorting_seen (code.Hidden a) = hidden a

-- keys, and hidden columns
abbrev pub Keys : Type 0
Keys = List SortKey × List Typed

abbrev pub order_seen : Order → Keys
order_seen o = (o.keys, o.hidden)

-- a position, and an expression that is none
abbrev pub sorting_at : Bool → ℕ → List Named → Outcome plans.Sorting
sorting_at negative n outputs = upon (at_position negative n outputs) (λ c. Ok (shown c.value.expr))

abbrev pub sorting_by : (OrTree → Outcome Typed) → List Named → OrTree → Outcome plans.Sorting
sorting_by hide outputs value = cond (is_over outputs value) (shown_value (read value (over outputs)).value) (hidden_value (hide value))

-- The keys of an ORDER BY. Its hidden columns are numbered from n.
abbrev pub order_of : (OrTree → Outcome Typed) → ℕ → List Named → List SortTree → Outcome Keys
order_of hide n outputs sorts = upon (plans.sortings hide outputs sorts) (λ all. Ok (keys_of n all sorts, hidden_columns all))

-- one key more
abbrev pub with_shown : Keys → Expr → SortTree → Keys
with_shown keys expr s = (keys.0 ++ key expr s ∷ [], keys.1)

abbrev pub with_hidden : ℕ → Keys → Typed → SortTree → Keys
with_hidden n keys a s = (keys.0 ++ key (Column (n + length keys.1)) s ∷ [], keys.1 ++ a ∷ [])

abbrev pub with_key : ℕ → Keys → plans.Sorting → SortTree → Keys
with_key n keys (shown expr) s = with_shown keys expr s
with_key n keys (hidden a) s = with_hidden n keys a s

abbrev pub with_sorting : ℕ → Keys → Outcome plans.Sorting → SortTree → Outcome Keys
with_sorting n keys outcome s = upon outcome (λ sorting. Ok (with_key n keys sorting s))

abbrev pub with_next : (OrTree → Outcome Typed) → ℕ → List Named → Outcome Keys → SortTree → Outcome Keys
with_next hide n outputs so_far s =
    upon so_far (λ keys. with_sorting n keys (plans.sorting hide outputs s.value (alone_of s.value)) s)

-- the keys over a plan that shows its own columns alone
abbrev pub keys_over : List SortTree → Logical → Outcome (List SortKey)
keys_over sorts plan =
    upon (order_of (no_hidden (numbered None 0 (schema_of plan))) 0 (numbered None 0 (schema_of plan)) sorts) (λ order. Ok order.0)

-- a Project drops what stands behind these columns, where something does
abbrev pub dropped : Bool → List Field → Logical → Logical
dropped true fields plan = projected (columns_up_to 0 fields) fields plan
dropped false fields plan = plan
