-- The plan of one SELECT with the ORDER BY above it.
use Rattle.std.specs.Prelude.{ℕ, ◌+◌, Bool, true, false, cond, List, [], ◌∷◌, ◌++◌, map, Option, Some, None, Ok, Err}
use Rattle.std.specs.List.{list_any, list_all}
use Rattle.aqe_base.specs.declared.status.AnalysisKind.TheVariants.{NoSuchColumn}
use Rattle.aqe_values.specs.declared.schema.Field.{Field}
use Rattle.aqe_values.specs.declared.sort_way.SortWay.{SortWay}
use Rattle.aqe_expr.specs.declared.expr.Expr.{Expr, Column}
use Rattle.aqe_logical.specs.declared.plan.SortKey.{SortKey}
use Rattle.aqe_logical.specs.declared.plan.Logical.{Logical}
use Rattle.aqe_logical.specs.Shapes.{filtered, projected, aggregated, sorted}
use Rattle.aqe_logical.specs.Columns.{schema_of}
use Rattle.aqe_trees.specs.declared.expression.OrTree.{OrTree}
use Rattle.aqe_trees.specs.declared.query.SortTree.{SortTree}
use Rattle.aqe_rules.specs.Outcomes.{refused, Outcome, upon, each}
use Rattle.aqe_rules.specs.Operations.{Typed}
use Rattle.aqe_rules.specs.Readings.{Named, Call, told, bears}
use Rattle.aqe_rules.specs.Looks.{Mention, plain, of_item, aggregate, Alone, a_number}
use Rattle.aqe_rules.specs.Expressions.{read, mentions_of, alone_of}
use Rattle.aqe_rules.specs.Sources.{numbered, over}
use Rattle.aqe_rules.specs.Selects.{Output, output, field, at_position}

-- From below: the Aggregate, whose columns have no names; the Filter of HAVING; the Project; the Aggregate of DISTINCT.
abbrev pub nameless : Typed → Field
nameless a = field [] a.kind

abbrev pub aggregate_fields : List Typed → List Call → List Field
aggregate_fields keys calls = map nameless keys ++ map (λ c. field [] c.kind) calls

abbrev pub groups_of : Bool → List Typed → List Call → Logical → Logical
groups_of true keys calls plan = aggregated (map (λ k. k.expr) keys) (map (λ c. c.call) calls) (aggregate_fields keys calls) plan
groups_of false keys calls plan = plan

abbrev pub filtered_by : Option Typed → Logical → Logical
filtered_by None plan = plan
filtered_by (Some a) plan = filtered a.expr plan

abbrev pub fields_of : List Output → List Field
fields_of outputs = map (λ o. field o.name o.value.kind) outputs

abbrev pub projected_to : List Output → Logical → Logical
projected_to outputs plan = projected (map (λ o. o.value.expr) outputs) (fields_of outputs) plan

-- the columns of a plan, numbered from n
abbrev pub columns_up_to : ℕ → List Field → List Expr
columns_up_to n [] = []
columns_up_to n (f ∷ fs) = Column n ∷ columns_up_to (n + 1) fs

abbrev pub distinct_rows : List Field → Logical → Logical
distinct_rows fields plan = aggregated (columns_up_to 0 fields) [] fields plan

abbrev pub distinct_if : Bool → List Field → Logical → Logical
distinct_if true fields plan = distinct_rows fields plan
distinct_if false fields plan = plan

-- ORDER BY. A key is over an output column, or over a hidden one.
pub data Sorting : Type 0 where
  shown : Expr → Sorting
  hidden : Typed → Sorting

-- whether each name in an expression is a plain name that an output column has, and no aggregate call stands in it
abbrev pub is_shown : List Named → Mention → Bool
is_shown outputs (plain name) = list_any (bears name) outputs
is_shown outputs mention = false

abbrev pub is_over : List Named → OrTree → Bool
is_over outputs value = list_all (is_shown outputs) (mentions_of value)

abbrev pub shown_value : Outcome Typed → Outcome Sorting
shown_value value = upon value (λ a. Ok (shown a.expr))

abbrev pub hidden_value : Outcome Typed → Outcome Sorting
hidden_value value = upon value (λ a. Ok (hidden a))

-- a number alone is a position; what is not over the output columns is a hidden column, where one may stand
abbrev pub sorting : (OrTree → Outcome Typed) → List Named → OrTree → Alone → Outcome Sorting
sorting hide outputs value (a_number negative n) = upon (at_position negative n outputs) (λ c. Ok (shown c.value.expr))
sorting hide outputs value alone =
    cond (is_over outputs value) (shown_value (read value (over outputs)).value) (hidden_value (hide value))

abbrev pub sortings : (OrTree → Outcome Typed) → List Named → List SortTree → Outcome (List Sorting)
sortings hide outputs sorts = each (map (λ s. sorting hide outputs s.value (alone_of s.value)) sorts)

abbrev pub hidden_columns : List Sorting → List Typed
hidden_columns [] = []
hidden_columns (shown expr ∷ rest) = hidden_columns rest
hidden_columns (hidden a ∷ rest) = a ∷ hidden_columns rest

-- hidden columns stand behind the output columns, in their order
abbrev pub way_of : SortTree → SortWay
way_of s = record { descending = s.descending; nulls_last = s.nulls_last }

abbrev pub key : Expr → SortTree → SortKey
key expr s = record { expr = expr; way = way_of s }

abbrev pub keys_of : ℕ → List Sorting → List SortTree → List SortKey
keys_of n (shown expr ∷ rest) (s ∷ sorts) = key expr s ∷ keys_of n rest sorts
keys_of n (hidden a ∷ rest) (s ∷ sorts) = key (Column n) s ∷ keys_of (n + 1) rest sorts
keys_of n all sorts = []

abbrev pub sorted_by : List SortKey → Logical → Logical
sorted_by [] plan = plan
sorted_by (first ∷ rest) plan = sorted (first ∷ rest) plan

-- a Project drops hidden columns again
abbrev pub without_hidden : List Typed → List Output → Logical → Logical
without_hidden [] outputs plan = plan
without_hidden (a ∷ more) outputs plan = projected (columns_up_to 0 (fields_of outputs)) (fields_of outputs) plan

abbrev pub hidden_output : Typed → Output
hidden_output a = output [] a

-- the names of output columns, as ORDER BY sees them
abbrev pub shown_columns : List Output → List Named
shown_columns outputs = numbered None 0 (fields_of outputs)

-- Where no hidden column may stand, an expression that is not over the output columns names no column: the first of its
-- names that no output column has is told.
abbrev pub name_of : Mention → List ℕ
name_of (plain name) = name
name_of (of_item table name) = told table name
name_of (aggregate name) = name

abbrev pub first_not_shown : List Named → List Mention → List ℕ
first_not_shown outputs [] = []
first_not_shown outputs (m ∷ ms) = cond (is_shown outputs m) (first_not_shown outputs ms) (name_of m)

abbrev pub no_hidden : List Named → OrTree → Outcome Typed
no_hidden outputs value = Err (refused NoSuchColumn (first_not_shown outputs (mentions_of value)))

-- a plan that shows its own columns alone, in an order
abbrev pub ordered : List SortTree → Logical → Outcome Logical
ordered sorts plan =
    upon (sortings (no_hidden (numbered None 0 (schema_of plan))) (numbered None 0 (schema_of plan)) sorts) (λ all.
    Ok (sorted_by (keys_of 0 all sorts) plan))
