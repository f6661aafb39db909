-- FROM: the plan of what it reads, and the columns that it shows.
use Rattle.std.specs.Prelude.{ℕ, ◌+◌, true, cond, List, [], ◌∷◌, ◌++◌, length, Option, Some, None, Ok, Err}
use Rattle.std.specs.Option.{unwrap_or}
use Rattle.aqe_base.specs.declared.join_kind.JoinKind.{JoinKind}
use Rattle.aqe_base.specs.declared.join_kind.JoinKind.TheVariants.{Cross}
use Rattle.aqe_base.specs.declared.status.AnalysisKind.TheVariants.{NoSuchTable}
use Rattle.aqe_values.specs.declared.schema.Field.{Field}
use Rattle.aqe_values.specs.declared.value.Value.TheVariants as value
use Rattle.aqe_expr.specs.declared.expr.Expr.{Expr, Column, Literal}
use Rattle.aqe_logical.specs.declared.plan.Logical.{Logical, OneRow, Scan}
use Rattle.aqe_logical.specs.Shapes.{filtered, joined}
use Rattle.aqe_logical.specs.Columns.{schema_of, shows_right}
use Rattle.aqe_trees.specs.declared.expression.OrTree.{OrTree}
use Rattle.aqe_rules.specs.Outcomes.{refused, Outcome, upon, provided}
use Rattle.aqe_rules.specs.Kinds.{is_truth}
use Rattle.aqe_rules.specs.Operations.{typed, mismatch}
use Rattle.aqe_rules.specs.Readings.{Named, Place, alike}
use Rattle.aqe_rules.specs.Expressions.{read}
use Rattle.aqe_rules.specs.Limits.{within_limits}
use Rattle.aqe_rules.specs.QueryForms.{Step}

-- the tables by their number, each with its name and its columns
abbrev pub Catalog : Type 0
Catalog = List (List ℕ × List Field)

-- an item of FROM: its name, where it has one, and its columns
pub record Item : Type 0 where
  pub name : Option (List ℕ)
  pub columns : List Field

-- a plan, and the items that its columns belong to, from left to right
pub record From : Type 0 where
  pub plan : Logical
  pub items : List Item

abbrev pub item : Option (List ℕ) → List Field → Item
item name columns = record { name = name; columns = columns }

abbrev pub from_of : Logical → List Item → From
from_of plan items = record { plan = plan; items = items }

-- columns, numbered from n
abbrev pub numbered : Option (List ℕ) → ℕ → List Field → List Named
numbered owner n [] = []
numbered owner n (f ∷ fs) = record { item = owner; name = f.name; value = typed (Column n) f.kind } ∷ numbered owner (n + 1) fs

abbrev pub columns_from : ℕ → List Item → List Named
columns_from n [] = []
columns_from n (i ∷ is) = numbered i.name n i.columns ++ columns_from (n + length i.columns) is

abbrev pub columns_of : List Item → List Named
columns_of items = columns_from 0 items

-- where no alias may be used, and no aggregate call may stand
abbrev pub over : List Named → Place
over columns = record { columns = columns; aliases = []; calls = [] }

-- a condition is a BOOLEAN
abbrev pub condition : OrTree → Place → Outcome Expr
condition tree place = upon (read tree place).value (λ a. provided (is_truth a.kind) mismatch (Ok a.expr))

-- the table of a name
abbrev pub table_named : List ℕ → Catalog → ℕ → Option (ℕ × List Field)
table_named name [] n = None
table_named name (table ∷ tables) n = cond (alike table.0 name) (Some (n, table.1)) (table_named name tables (n + 1))

-- a table is scanned; its item is named by its alias, else by its own name
abbrev pub scanned : List ℕ → Option (List ℕ) → Option (ℕ × List Field) → Outcome From
scanned name alias None = Err (refused NoSuchTable name)
scanned name alias (Some table) =
    upon (within_limits (Scan table.0 table.1)) (λ plan. Ok (from_of plan (item (Some (unwrap_or alias name)) table.1 ∷ [])))

abbrev pub table_source : List ℕ → Option (List ℕ) → Catalog → Outcome From
table_source name alias catalog = scanned name alias (table_named name catalog 0)

-- a query in FROM is an item; without alias it has no name
abbrev pub query_source : Option (List ℕ) → Outcome Logical → Outcome From
query_source alias query = upon query (λ plan. Ok (from_of plan (item alias (schema_of plan) ∷ [])))

-- ON sees the columns of both sides; without ON each pair is joined
abbrev pub join_condition : Option OrTree → List Item → Outcome Expr
join_condition None items = Ok (Literal (value.Boolean true))
join_condition (Some tree) items = condition tree (over (columns_of items))

-- a semi or anti join shows its left items alone
abbrev pub joined_items : JoinKind → List Item → List Item → List Item
joined_items kind left right = cond (shows_right kind) (left ++ right) left

abbrev pub join : JoinKind → Option OrTree → From → From → Outcome From
join kind on left right =
    upon (join_condition on (left.items ++ right.items)) (λ on.
    upon (within_limits (joined kind on left.plan right.plan)) (λ plan. Ok (from_of plan (joined_items kind left.items right.items))))

-- each source is joined to what stands before it
abbrev pub join_all : Catalog → Outcome From → List (Step (Catalog → Outcome From)) → Outcome From
join_all catalog left [] = left
join_all catalog left (j ∷ js) =
    join_all catalog (upon left (λ l. upon (j.source catalog) (λ r. join j.kind j.on l r))) js

-- a comma joins each row of what stands before it with each row of what stands behind
abbrev pub cross_all : Catalog → Outcome From → List (Catalog → Outcome From) → Outcome From
cross_all catalog left [] = left
cross_all catalog left (j ∷ js) = cross_all catalog (upon left (λ l. upon (j catalog) (λ r. join Cross None l r))) js

-- without FROM there is one row without columns
abbrev pub from_all : Catalog → List (Catalog → Outcome From) → Outcome From
from_all catalog [] = Ok (from_of OneRow [])
from_all catalog (j ∷ js) = cross_all catalog (j catalog) js

-- WHERE takes a column of FROM before an alias, and no aggregate call
abbrev pub kept : Option OrTree → Place → Logical → Outcome Logical
kept None place plan = Ok plan
kept (Some tree) place plan = upon (condition tree place) (λ a. Ok (filtered a plan))
