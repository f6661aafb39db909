-- One SELECT: its output columns, its groups, and its plan.
use Rattle.std.specs.Prelude.{ℕ, zero, suc, ◌+◌, Bool, true, false, not, cond, ◌||◌, List, [], ◌∷◌, ◌++◌, map, flat_map, filter, length, Option, Some, None, codes, Ok, Err}
use Rattle.std.specs.Option.{option_map_or, is_some}
use Rattle.std.specs.List.{list_any}
use Rattle.std.specs.Fmt.{decimal}
use Rattle.aqe_base.specs.declared.status.AnalysisKind.TheVariants.{NoSuchTable, NoSuchColumn, BadPosition}
use Rattle.aqe_values.specs.declared.schema.Field.{Field}
use Rattle.aqe_values.specs.declared.sql_type.SqlType.{SqlType}
use Rattle.aqe_values.specs.declared.sql_type.SqlType.TheVariants as sql
use Rattle.aqe_expr.specs.declared.expr.Expr.{Expr, Column}
use Rattle.aqe_trees.specs.declared.expression.OrTree.{OrTree}
use Rattle.aqe_trees.specs.declared.query.ItemTree.{ItemTree}
use Rattle.aqe_trees.specs.declared.query.ItemTree.TheVariants as tree
use Rattle.aqe_trees.specs.declared.query.SortTree.{SortTree}
use Rattle.aqe_rules.specs.Outcomes.{refused, Outcome, upon, each}
use Rattle.aqe_rules.specs.Operations.{Typed, typed}
use Rattle.aqe_rules.specs.Readings.{Named, Alias, Call, Place, alike, is_of, same_call, told}
use Rattle.aqe_rules.specs.Looks.{Alone, a_number, a_column}
use Rattle.aqe_rules.specs.Expressions.{read, has_aggregate, alone_of}
use Rattle.aqe_rules.specs.Grouping.{grouped}
use Rattle.aqe_rules.specs.Sources.{Item, columns_of, over, condition}

-- an output column
pub record Output : Type 0 where
  pub name : List ℕ
  pub value : Typed

abbrev pub output : List ℕ → Typed → Output
output name value = record { name = name; value = value }

abbrev pub field : List ℕ → SqlType → Field
field name kind = record { name = name; kind = kind }

-- What a SELECT says: its list, what FROM shows, and whether there is a FROM at all.
pub record List_over : Type 0 where
  pub list : List ItemTree
  pub items : List Item
  pub has_from : Bool

-- the places of a select item: its own, where aggregate calls may stand, and that of WHERE, GROUP BY and HAVING, which
-- may use the explicit aliases
abbrev pub at : List Named → List Call → Place
at columns calls = record { columns = columns; aliases = []; calls = calls }

abbrev pub alias_of : List Named → ItemTree → List Alias
alias_of columns (tree.One value (Some name)) = record { name = name; value = λ calls. (read value (at columns calls)).value } ∷ []
alias_of columns item = []

abbrev pub with_aliases : List Named → List ItemTree → List Call → Place
with_aliases columns list calls = record { columns = columns; aliases = flat_map (alias_of columns) list; calls = calls }

-- `*` stands for all columns of FROM, which must be there; `t.*` for those of the items named t, of which there is one at least
abbrev pub all_columns : Bool → List Named → Outcome (List Named)
all_columns true columns = Ok columns
all_columns false columns = Err (refused NoSuchColumn (codes "*"))

abbrev pub is_named : List ℕ → Item → Bool
is_named name item = option_map_or (λ own. alike own name) item.name false

abbrev pub columns_of_all : List ℕ → List Item → Outcome (List Named)
columns_of_all name items =
    cond (list_any (is_named name) items) (Ok (filter (is_of name) (columns_of items))) (Err (refused NoSuchTable name))

-- the select list with each `*` spread out: a column of FROM, or an expression with its alias
pub data Spread : Type 0 where
  column : Named → Spread
  expression : OrTree → Option (List ℕ) → Spread

abbrev pub spread_item : Bool → List Item → ItemTree → Outcome (List Spread)
spread_item has_from items tree.All = upon (all_columns has_from (columns_of items)) (λ cs. Ok (map column cs))
spread_item has_from items (tree.AllOf name) = upon (columns_of_all name items) (λ cs. Ok (map column cs))
spread_item has_from items (tree.One value alias) = Ok (expression value alias ∷ [])

abbrev pub spread : Bool → List Item → List ItemTree → Outcome (List Spread)
spread has_from items list = upon (each (map (spread_item has_from items) list)) (λ all. Ok (flat_map (λ s. s) all))

abbrev pub spread_value : Place → Spread → Outcome Typed
spread_value place (column c) = Ok c.value
spread_value place (expression value alias) = (read value place).value

-- The name of an output column: its alias where it has one; the name of the column where it is no more than one; and
-- `_c` with its place, counted from 0, where it is neither.
abbrev pub name_of_column : List Named → Expr → List ℕ
name_of_column [] expr = []
name_of_column (c ∷ cs) (Column zero) = c.name
name_of_column (c ∷ cs) (Column (suc n)) = name_of_column cs (Column n)
name_of_column (c ∷ cs) expr = []

abbrev pub own_name : List Named → ℕ → Alone → Typed → List ℕ
own_name columns n a_column value = name_of_column columns value.expr
own_name columns n alone value = codes "_c" ++ decimal n

abbrev pub output_name : List Named → ℕ → Option (List ℕ) → OrTree → Typed → List ℕ
output_name columns n (Some alias) value meaning = alias
output_name columns n None value meaning = own_name columns n (alone_of value) meaning

-- The output columns in order. What each is built of is looked at once its types are known: `built` is the rule of
-- grouped queries, and does nothing in others.
abbrev pub column_output : (Typed → Outcome Typed) → Named → Outcome Output
column_output built c = upon (built c.value) (λ value. Ok (output c.name value))

abbrev pub item_outputs : (Typed → Outcome Typed) → Bool → List Item → Place → ℕ → ItemTree → Outcome (List Output)
item_outputs built has_from items place n tree.All =
    upon (all_columns has_from place.columns) (λ cs. each (map (column_output built) cs))
item_outputs built has_from items place n (tree.AllOf name) =
    upon (columns_of_all name items) (λ cs. each (map (column_output built) cs))
item_outputs built has_from items place n (tree.One value alias) =
    upon (read value place).value (λ meaning. upon (built meaning) (λ made.
    Ok (output (output_name place.columns n alias value meaning) made ∷ [])))

abbrev pub outputs : (Typed → Outcome Typed) → Bool → List Item → Place → ℕ → List ItemTree → Outcome (List Output)
outputs built has_from items place n [] = Ok []
outputs built has_from items place n (item ∷ rest) =
    upon (item_outputs built has_from items place n item) (λ first.
    upon (outputs built has_from items place (n + length first) rest) (λ more. Ok (first ++ more)))

-- A position counts the output columns from 1.
abbrev pub written : Bool → ℕ → List ℕ
written true n = codes "-" ++ decimal n
written false n = decimal n

abbrev pub nth : {A : Type 0} → List ℕ → ℕ → List A → Outcome A
nth told n [] = Err (refused BadPosition told)
nth told zero all = Err (refused BadPosition told)
nth told (suc zero) (a ∷ all) = Ok a
nth told (suc (suc n)) (a ∷ all) = nth told (suc n) all

abbrev pub at_position : {A : Type 0} → Bool → ℕ → List A → Outcome A
at_position true n all = Err (refused BadPosition (written true n))
at_position false n all = nth (written false n) n all

-- GROUP BY: a number alone is a position in the spread list; another expression takes a column before an alias
abbrev pub grouping_key : Bool → List Item → Place → List ItemTree → OrTree → Alone → Outcome Typed
grouping_key has_from items place list value (a_number negative n) =
    upon (spread has_from items list) (λ all. upon (at_position negative n all) (spread_value (over place.columns)))
grouping_key has_from items place list value alone = (read value place).value

abbrev pub grouping_keys : Bool → List Item → Place → List ItemTree → List OrTree → Outcome (List Typed)
grouping_keys has_from items place list group = each (map (λ value. grouping_key has_from items place list value (alone_of value)) group)

-- A query is grouped where it has GROUP BY, HAVING, or an aggregate call in its select list or ORDER BY.
abbrev pub item_has_aggregate : ItemTree → Bool
item_has_aggregate (tree.One value alias) = has_aggregate value
item_has_aggregate item = false

abbrev pub is_empty : {A : Type 0} → List A → Bool
is_empty [] = true
is_empty (a ∷ all) = false

abbrev pub sort_has_aggregate : SortTree → Bool
sort_has_aggregate sort = has_aggregate sort.value

abbrev pub is_grouped : List ItemTree → List OrTree → Option OrTree → List SortTree → Bool
is_grouped list group having sorts =
    not (is_empty group) || is_some having || list_any item_has_aggregate list || list_any sort_has_aggregate sorts

-- The aggregate calls of a grouped query in the order of their first use: select list, HAVING, ORDER BY; equal ones once.
abbrev pub without : Call → List Call → List Call
without call calls = filter (λ other. not (same_call call.call other.call)) calls

abbrev pub once : List Call → List Call
once [] = []
once (call ∷ calls) = call ∷ without call (once calls)

abbrev pub calls_of_item : Place → ItemTree → List Call
calls_of_item place (tree.One value alias) = (read value place).calls
calls_of_item place item = []

abbrev pub calls_of_having : Place → Option OrTree → List Call
calls_of_having place having = option_map_or (λ value. (read value place).calls) having []

abbrev pub calls_of_sorts : Place → List SortTree → List Call
calls_of_sorts place sorts = flat_map (λ sort. (read sort.value place).calls) sorts

abbrev pub calls_of : Place → Place → List ItemTree → Option OrTree → List SortTree → List Call
calls_of place having_place list having sorts =
    once (flat_map (calls_of_item place) list ++ calls_of_having having_place having ++ calls_of_sorts place sorts)

-- what an expression of a grouped query is built of
abbrev pub built_of_groups : List Typed → List Named → Typed → Outcome Typed
built_of_groups keys columns a =
    upon (grouped (map (λ k. k.expr) keys) (map (λ c. c.name) columns) a.expr) (λ expr. Ok (typed expr a.kind))

abbrev pub built : Bool → List Typed → List Named → Typed → Outcome Typed
built true keys columns a = built_of_groups keys columns a
built false keys columns a = Ok a

-- HAVING is a condition over the groups
abbrev pub having_condition : (Typed → Outcome Typed) → Place → OrTree → Outcome Typed
having_condition built place value = upon (condition value place) (λ expr. built (typed expr sql.Boolean))
