-- The laws of columns and of parts.
use Rattle.std.specs.Prelude.{◌≡◌, ◌↔◌, ◌<◌, ℕ, List, map, All, slice_index_or}
use Rattle.std.specs.List.{list_all}
use Rattle.aqe_values.specs.declared.value.Value.{Value}
use Rattle.aqe_values.specs.declared.value.Value.TheVariants.{Null}
use Rattle.aqe_expr.specs.declared.expr.Expr.{Expr}
use Rattle.aqe_expr.specs.Below.{ColumnsBelow}
use Rattle.aqe_expr.specs.Meaning.{val, holds}
use Rattle.aqe_columns.specs.Reading.{columns_of}
use Rattle.aqe_columns.specs.Replacing.{replaced}
use Rattle.aqe_columns.specs.Parts.{parts_of}

-- over a row, the value after a replacement is the value before it over the row of the items' values
abbrev pub ReplacementKeepsTheValue : Type 0
ReplacementKeepsTheValue =
    (row : List Value) (items : List Expr) (e : Expr) → val row (replaced items e) ≡ val (map (val row) items) e

-- all parts of a condition hold of a row exactly where the condition does
abbrev pub PartsHoldTogether : Type 0
PartsHoldTogether = (row : List Value) (condition : Expr) → list_all (λ part. holds part row) (parts_of condition) ≡ holds condition row

-- over two rows that agree at the columns that an expression reads, it has the same value
abbrev pub ValuesReadTheirColumns : Type 0
ValuesReadTheirColumns =
    (row other : List Value) (e : Expr) → All (λ k. slice_index_or row k Null ≡ slice_index_or other k Null) (columns_of e) →
    val row e ≡ val other e

-- an expression is over n columns where each column that it reads is below n
abbrev pub ColumnsBelowAsData : Type 0
ColumnsBelowAsData = (n : ℕ) (e : Expr) → ColumnsBelow n e ↔ All (λ k. k < n) (columns_of e)
