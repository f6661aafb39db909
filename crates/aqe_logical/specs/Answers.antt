-- Which lists of rows answer a plan.
use Rattle.std.specs.Prelude.{◌≡◌, ℕ, ◌-◌, ◌⊎◌, Bool, List, [], ◌∷◌, ◌++◌, map, filter, flat_map, take, drop, length, Option, Some, None, slice_index_or, IsPermutation}
use Rattle.aqe_values.specs.declared.value.Value.{Value}
use Rattle.aqe_expr.specs.declared.expr.Expr.{Expr}
use Rattle.aqe_values.specs.KeyOrder.{InOrder}
use Rattle.aqe_expr.specs.Meaning.{holds}
use Rattle.aqe_logical.specs.declared.plan.Placement.{Placement}
use Rattle.aqe_logical.specs.declared.plan.Placement.TheVariants as place
use Rattle.aqe_logical.specs.declared.plan.Logical.{Logical, OneRow, Scan, Empty, Held, HeldPartial}
use Rattle.aqe_logical.specs.Shapes.{filtered, projected, joined, aggregated, united, sorted, limited, sampled}
use Rattle.aqe_logical.specs.Columns.{width}
use Rattle.aqe_logical.specs.Groups.{row_of, group_rows, finish_rows}
use Rattle.aqe_logical.specs.Joins.{pairs}
use Rattle.aqe_logical.specs.Order.{before}

abbrev pub Row : Type 0
Row = List Value

-- tables by their number; a table is a list of files, and a file a list of rows
abbrev pub Tables : Type 0
Tables = List (List (List Row))

-- the rows that each stage holds, those of its first map first
abbrev pub Stages : Type 0
Stages = ℕ → List Row

abbrev pub table_rows : Tables → ℕ → List Row
table_rows tables table = flat_map (λ file. file) (slice_index_or tables table [])

-- two rows meet where the condition holds of the left row followed by the right row
abbrev pub meets : Expr → Row → Row → Bool
meets condition x y = holds condition (x ++ y)

-- at most so many rows from the front; all of them where there is no number
abbrev pub at_most_rows : Option ℕ → List Row → List Row
at_most_rows None rows = rows
at_most_rows (Some n) rows = take n rows

-- where a stage has one part, its rows are read in the order in which it holds them
abbrev pub InItsOrder : Placement → List Row → List Row → Type 0
InItsOrder place.Single held l = l ≡ held
InItsOrder place held l = Unit {0}

-- l is an answer of a plan over the tables and over what the stages hold
abbrev pub Answer : Tables → Stages → Logical → List Row → Type 0
Answer tables stages OneRow l = l ≡ [] ∷ []
Answer tables stages (Scan table schema) l = IsPermutation (table_rows tables table) l
Answer tables stages (filtered condition child) l =
    (rows : List Row) × Answer tables stages child rows × (l ≡ filter (holds condition) rows)
Answer tables stages (projected items schema child) l =
    (rows : List Row) × Answer tables stages child rows × (l ≡ map (row_of items) rows)
Answer tables stages (joined kind condition left right) l =
    (a : List Row) × (b : List Row) × Answer tables stages left a × Answer tables stages right b ×
    IsPermutation (pairs kind (width left) (width right) (meets condition) a b) l
Answer tables stages (aggregated keys calls schema child) l =
    (rows : List Row) × Answer tables stages child rows ×
    IsPermutation (group_rows (length keys) (row_of keys) calls rows) l
Answer tables stages (united left right) l =
    (a : List Row) × (b : List Row) × Answer tables stages left a × Answer tables stages right b ×
    IsPermutation (a ++ b) l
Answer tables stages (sorted keys child) l =
    (rows : List Row) × Answer tables stages child rows × IsPermutation rows l × InOrder (before keys) l
Answer tables stages (limited count skip child) l =
    (rows : List Row) × Answer tables stages child rows × (l ≡ at_most_rows count (drop skip rows))
Answer tables stages (Empty schema) l = l ≡ []
Answer tables stages (Held stage place schema) l =
    IsPermutation (stages stage.0) l × InItsOrder place (stages stage.0) l
Answer tables stages (HeldPartial stage calls schema) l =
    IsPermutation (finish_rows (length schema - length calls) calls (stages stage.0)) l
Answer tables stages (sampled stage child) l =
    Answer tables stages child l ⊎ ((l ≡ []) × (stages stage.0 ≡ []))

-- a plan that reads no stage has the same answers whatever the stages hold
abbrev pub no_stage : Stages
no_stage stage = []

abbrev pub AnswerOf : Tables → Logical → List Row → Type 0
AnswerOf tables plan l = Answer tables no_stage plan l
