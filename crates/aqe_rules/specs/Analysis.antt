-- The analysis of a query: its one plan, or the first check that fails.
use Rattle.std.specs.Prelude.{◌≡◌, ℕ, ◌-◌, ◌^◌, min, Bool, true, false, not, cond, List, [], ◌∷◌, ◌++◌, map, length, Option, None, option_map, Ok}
use Rattle.std.specs.Option.{unwrap_or}
use Rattle.std.specs.Result.{result_err}
use Rattle.aqe_logical.specs.declared.plan.Logical.{Logical}
use Rattle.aqe_logical.specs.Shapes.{limited}
use Rattle.aqe_trees.specs.declared.expression.OrTree.{OrTree}
use Rattle.aqe_trees.specs.declared.query.QueryTree.{QueryTree}
use Rattle.aqe_trees.specs.declared.query.ItemTree.{ItemTree}
use Rattle.aqe_trees.specs.declared.query.SortTree.{SortTree}
use Rattle.aqe_rules.specs.Outcomes.{Check, Outcome, upon, if_any}
use Rattle.aqe_rules.specs.Operations.{Typed}
use Rattle.aqe_rules.specs.Readings.{Named, Call}
use Rattle.aqe_rules.specs.Expressions.{read}
use Rattle.aqe_rules.specs.Limits.{within_limits}
use Rattle.aqe_rules.specs.Sources.{Catalog, Item, From, columns_of, over, kept, table_source, query_source, join_all, from_all}
use Rattle.aqe_rules.specs.Selects.{Output, at, with_aliases, outputs, grouping_keys, is_grouped, is_empty, calls_of, built, having_condition}
use Rattle.aqe_rules.specs.Plans.{groups_of, filtered_by, fields_of, projected_to, distinct_if, sortings, hidden_columns, keys_of, sorted_by, without_hidden, hidden_output, shown_columns, no_hidden, ordered}
use Rattle.aqe_rules.specs.Unions.{union_of}
use Rattle.aqe_rules.specs.QueryForms.{QueryForms}
use Rattle.aqe_rules.specs.QueryTrees.{made_of_query}

-- What is known of a SELECT once its list and HAVING are read: the plan of FROM and WHERE, the columns of FROM, whether it
-- is grouped and by which keys, its output columns, the condition of HAVING, and whether equal rows count once.
pub record Selected : Type 0 where
  pub below : Logical
  pub columns : List Named
  pub is_grouped : Bool
  pub keys : List Typed
  pub outputs : List Output
  pub having : Option Typed
  pub distinct : Bool

-- its plan with the values of these calls, and with further columns behind its own
abbrev pub plan_of : Selected → List Call → List Output → Logical
plan_of s calls more =
    distinct_if s.distinct (fields_of s.outputs)
    (projected_to (s.outputs ++ more) (filtered_by s.having (groups_of s.is_grouped s.keys calls s.below)))

-- ORDER BY of a SELECT: a hidden column is read over FROM, which DISTINCT does not allow
abbrev pub hide : Selected → List Call → OrTree → Outcome Typed
hide s calls value =
    cond s.distinct (no_hidden (shown_columns s.outputs) value)
    (upon (read value (at s.columns calls)).value (built s.is_grouped s.keys s.columns))

abbrev pub sorted_plan : Selected → List Call → List SortTree → Outcome Logical
sorted_plan s calls sorts =
    upon (sortings (hide s calls) (shown_columns s.outputs) sorts) (λ all.
    Ok (without_hidden (hidden_columns all) s.outputs
    (sorted_by (keys_of (length s.outputs) all sorts) (plan_of s calls (map hidden_output (hidden_columns all))))))

-- The walk over a SELECT: FROM, WHERE, GROUP BY, the select list, HAVING. `sorts` is the ORDER BY above it, whose aggregate
-- calls make it grouped, and `all` the calls with those of ORDER BY.
abbrev pub select_parts : Bool → List ItemTree → Bool → Option OrTree → List OrTree → Option OrTree → Bool → List Call → From → Outcome Selected
select_parts distinct list has_from filter group having grouped all from =
    upon (kept filter (with_aliases (columns_of from.items) list []) from.plan) (λ below.
    upon (grouping_keys has_from from.items (with_aliases (columns_of from.items) list []) list group) (λ keys.
    upon (outputs (built grouped keys (columns_of from.items)) has_from from.items (at (columns_of from.items) all) 0 list) (λ outputs.
    upon (if_any (option_map (having_condition (built grouped keys (columns_of from.items)) (with_aliases (columns_of from.items) list all)) having)) (λ having.
    Ok (record { below = below; columns = columns_of from.items; is_grouped = grouped; keys = keys; outputs = outputs; having = having; distinct = distinct })))))

-- the calls of a grouped query; no call may stand in another
abbrev pub calls_if : Bool → List Item → List ItemTree → Option OrTree → List SortTree → List Call
calls_if true items list having sorts =
    calls_of (over (columns_of items)) (with_aliases (columns_of items) list []) list having sorts
calls_if false items list having sorts = []

-- a SELECT keeps the limits before its ORDER BY is read
abbrev pub select_over : Bool → List ItemTree → Bool → Option OrTree → List OrTree → Option OrTree → List SortTree → From → Outcome Logical
select_over distinct list has_from filter group having sorts from =
    upon (select_parts distinct list has_from filter group having (is_grouped list group having sorts)
    (calls_if (is_grouped list group having sorts) from.items list having sorts) from) (λ s.
    upon (within_limits (plan_of s (calls_if s.is_grouped from.items list having []) [])) (λ plan.
    sorted_plan s (calls_if s.is_grouped from.items list having sorts) sorts))

-- what a core gives with an ORDER BY above it
abbrev pub Core : Type 0
Core = Catalog → List SortTree → Outcome Logical

abbrev pub unite_all : Catalog → Outcome Logical → List (Bool × Core) → Outcome Logical
unite_all catalog left [] = left
unite_all catalog left (c ∷ cs) =
    unite_all catalog (upon left (λ l. upon (c.1 catalog []) (λ r. union_of c.0 l r))) cs

-- ORDER BY of a lone core is read with it; that of a union is over its output columns
abbrev pub union_rule : Core → List (Bool × Core) → Core
union_rule first [] catalog sorts = first catalog sorts
union_rule first (c ∷ cs) catalog sorts = upon (unite_all catalog (first catalog []) (c ∷ cs)) (ordered sorts)

-- LIMIT and OFFSET; a number that no BIGINT is counts as the greatest that is one
abbrev pub bounded : ℕ → ℕ
bounded n = min n (2 ^ 63 - 1)

abbrev pub cut : Option ℕ → Option ℕ → Logical → Logical
cut None None plan = plan
cut limit offset plan = limited (option_map bounded limit) (bounded (unwrap_or offset 0)) plan

abbrev pub rules : QueryForms (Catalog → Outcome Logical) Core Core (Catalog → Outcome From) (Catalog → Outcome From)
rules = record {
  query = λ union sorts limit offset catalog. upon (union catalog sorts) (λ plan. within_limits (cut limit offset plan));
  union = union_rule;
  paren = λ query catalog sorts. upon (query catalog) (ordered sorts);
  select = λ distinct list from filter group having catalog sorts.
      upon (from_all catalog from) (select_over distinct list (not (is_empty from)) filter group having sorts);
  joined = λ first steps catalog. join_all catalog (first catalog) steps;
  table = λ name alias catalog. table_source name alias catalog;
  subquery = λ query alias catalog. query_source alias (query catalog);
}

-- what the walk over a query comes to
abbrev pub walk : QueryTree → Catalog → Outcome Logical
walk = made_of_query rules

-- a plan is the analysed plan of a query over a catalog
abbrev pub Analysed : QueryTree → Catalog → Logical → Type 0
Analysed tree catalog plan = walk tree catalog ≡ Ok plan

-- the first check that fails, if one does
abbrev pub first_check : QueryTree → Catalog → Option Check
first_check tree catalog = result_err (walk tree catalog)
