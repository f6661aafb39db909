-- Which plans are closed, and which are well formed.
use Rattle.std.specs.Prelude.{◌≡◌, ℕ, ◌+◌, ◌<◌, ◌≤◌, ◌^◌, List, length, All, Option, Some, None}
use Rattle.aqe_expr.specs.declared.expr.Expr.{Expr}
use Rattle.aqe_expr.specs.Below.{ColumnsBelow}
use Rattle.aqe_logical.specs.declared.plan.AggCall.{AggCall}
use Rattle.aqe_logical.specs.declared.plan.SortKey.{SortKey}
use Rattle.aqe_logical.specs.declared.plan.Placement.{Placement}
use Rattle.aqe_logical.specs.declared.plan.Placement.TheVariants as place
use Rattle.aqe_logical.specs.declared.plan.Logical.{Logical, OneRow, Scan, Empty, Held, HeldPartial}
use Rattle.aqe_logical.specs.Shapes.{filtered, projected, joined, aggregated, united, sorted, limited, sampled}
use Rattle.aqe_logical.specs.Columns.{width}
use Rattle.aqe_logical.specs.Nodes.{nodes, leaf_count}
use Rattle.aqe_logical.specs.Answers.{Tables, Stages, Row, table_rows}

-- Only planning again makes a plan that reads a stage, or that is empty in the place of another.
abbrev pub IsOfAQuery : Logical → Type 0
IsOfAQuery (Empty schema) = ⊥
IsOfAQuery (Held stage place schema) = ⊥
IsOfAQuery (HeldPartial stage calls schema) = ⊥
IsOfAQuery (sampled stage child) = ⊥
IsOfAQuery node = Unit {0}

-- a plan is closed where it reads no stage and none of its parts was replaced by Empty
abbrev pub Closed : Logical → Type 0
Closed plan = All IsOfAQuery (nodes plan)

-- a plan without Limit
abbrev pub IsNoLimit : Logical → Type 0
IsNoLimit (limited count skip child) = ⊥
IsNoLimit node = Unit {0}

abbrev pub WithoutLimit : Logical → Type 0
WithoutLimit plan = All IsNoLimit (nodes plan)

-- no node has more columns, or keys, than this, and no plan more leaves
abbrev pub column_limit : ℕ
column_limit = 256

-- the numbers of a Limit are those of a literal of BIGINT
abbrev pub IsLimitNumber : ℕ → Type 0
IsLimitNumber n = n < 2 ^ 63

abbrev pub IsLimitCount : Option ℕ → Type 0
IsLimitCount None = Unit {0}
IsLimitCount (Some n) = IsLimitNumber n

abbrev pub ItemsBelow : ℕ → List Expr → Type 0
ItemsBelow n items = All (ColumnsBelow n) items

abbrev pub CallsBelow : ℕ → List AggCall → Type 0
CallsBelow n calls = All (λ call. ColumnsBelow n call.arg) calls

abbrev pub KeysBelow : ℕ → List SortKey → Type 0
KeysBelow n keys = All (λ key. ColumnsBelow n key.expr) keys

-- a hash has keys, and the keys of a place are over the columns of what stands there
abbrev pub IsPlaceOver : ℕ → Placement → Type 0
IsPlaceOver n (place.Hash keys) = (0 < length keys) × (length keys ≤ column_limit) × ItemsBelow n keys
IsPlaceOver n (place.Range keys) = (length keys ≤ column_limit) × KeysBelow n keys
IsPlaceOver n place = Unit {0}

-- What holds of each node: a project has a field for each item, and an aggregate one for each key
-- and call; the sides of a union are as wide; a stage with partial rows has at least a field for
-- each call, behind those of the keys; and an expression names columns of the rows below it, which
-- for the condition of a join are the columns of its left side and then of its right side.
abbrev pub IsSound : Logical → Type 0
IsSound OneRow = Unit {0}
IsSound (Scan table schema) = length schema ≤ column_limit
IsSound (filtered condition child) = ColumnsBelow (width child) condition
IsSound (projected items schema child) =
    (length schema ≡ length items) × (length schema ≤ column_limit) × ItemsBelow (width child) items
IsSound (joined kind condition left right) =
    (width (joined kind condition left right) ≤ column_limit) × ColumnsBelow (width left + width right) condition
IsSound (aggregated keys calls schema child) =
    (length schema ≡ length keys + length calls) × (length schema ≤ column_limit) ×
    ItemsBelow (width child) keys × CallsBelow (width child) calls
IsSound (united left right) = width left ≡ width right
IsSound (sorted keys child) = (length keys ≤ column_limit) × KeysBelow (width child) keys
IsSound (limited count skip child) = IsLimitCount count × IsLimitNumber skip
IsSound (Empty schema) = length schema ≤ column_limit
IsSound (Held stage place schema) = (length schema ≤ column_limit) × IsPlaceOver (length schema) place
IsSound (HeldPartial stage calls schema) = (length calls ≤ length schema) × (length schema ≤ column_limit)
IsSound (sampled stage child) = Unit {0}

abbrev pub Sound : Logical → Type 0
Sound plan = All IsSound (nodes plan)

abbrev pub WellFormed : Logical → Type 0
WellFormed plan = Sound plan × (leaf_count plan ≤ column_limit)

-- each row has so many values
abbrev pub HaveWidth : ℕ → List Row → Type 0
HaveWidth n rows = All (λ row. length row ≡ n) rows

-- the rows of the tables and stages that a plan reads have as many values as its leaves have fields
abbrev pub Fits : Tables → Stages → Logical → Type 0
Fits tables stages (Scan table schema) = HaveWidth (length schema) (table_rows tables table)
Fits tables stages (Held stage place schema) = HaveWidth (length schema) (stages stage.0)
Fits tables stages (HeldPartial stage calls schema) = HaveWidth (length schema) (stages stage.0)
Fits tables stages node = Unit {0}

abbrev pub LeavesFit : Tables → Stages → Logical → Type 0
LeavesFit tables stages plan = All (Fits tables stages) (nodes plan)
