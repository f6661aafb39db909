-- Small known answers of joins and groups, and what becomes of NULL: a check of the definitions by hand.
use Rattle.std.proofs.Common.{◌≡◌, List, [], ◌∷◌, refl, pos}
use Rattle.std.proofs.lemmas.List.Sorted.{IsPermutation-refl}
use Rattle.aqe_base.specs.declared.join_kind.JoinKind.TheVariants.{Inner, FullOuter, LeftSemi, LeftAnti}
use Rattle.aqe_values.specs.declared.value.Value.{Value}
use Rattle.aqe_values.specs.declared.value.Value.TheVariants.{Null, Int, BigInt}
use Rattle.aqe_expr.specs.declared.expr.Expr.{Expr, Column, Literal}
use Rattle.aqe_expr.specs.declared.expr.BinaryOp.TheVariants as binary
use Rattle.aqe_expr.specs.Shapes.{binary_of}
use Rattle.aqe_logical.specs.declared.plan.AggFun.TheVariants.{Count, Sum}
use Rattle.aqe_logical.specs.declared.plan.Logical.{Scan}
use Rattle.aqe_logical.specs.Shapes.{filtered}
use Rattle.aqe_logical.specs.Answers.{Tables, Row, AnswerOf, meets}
use Rattle.aqe_logical.specs.Groups.{folded, finish_rows}
use Rattle.aqe_logical.specs.Joins.{pairs}

abbrev row : Value → Row
row v = v ∷ []

-- a table with the rows 1, 2 and NULL, in one file
abbrev numbers : List Row
numbers = row (Int (pos 1)) ∷ row (Int (pos 2)) ∷ row Null ∷ []

abbrev tables : Tables
tables = (numbers ∷ []) ∷ []

abbrev is_one : Expr
is_one = binary_of binary.Eq (Column 0) (Literal (Int (pos 1)))

scan_in_order : AnswerOf tables (Scan 0 []) numbers
scan_in_order = IsPermutation-refl numbers

-- a filter drops the rows at which the condition is NULL
filter_keeps_one : AnswerOf tables (filtered is_one (Scan 0 [])) (row (Int (pos 1)) ∷ [])
filter_keeps_one = (numbers, scan_in_order, refl)

-- the rows 1 and 3 on the right; NULL meets nothing
abbrev others : List Row
others = row (Int (pos 1)) ∷ row (Int (pos 3)) ∷ []

abbrev same : Expr
same = binary_of binary.Eq (Column 0) (Column 1)

semi : pairs LeftSemi 1 1 (meets same) numbers others ≡ row (Int (pos 1)) ∷ []
semi = refl

anti : pairs LeftAnti 1 1 (meets same) numbers others ≡ row (Int (pos 2)) ∷ row Null ∷ []
anti = refl

inner : pairs Inner 1 1 (meets same) numbers others ≡ (Int (pos 1) ∷ Int (pos 1) ∷ []) ∷ []
inner = refl

full : pairs FullOuter 1 1 (meets same) numbers others ≡ (Int (pos 1) ∷ Int (pos 1) ∷ []) ∷ (Int (pos 2) ∷ Null ∷ []) ∷ (Null ∷ Null ∷ []) ∷ (Null ∷ Int (pos 3) ∷ []) ∷ []
full = refl

-- over no row a count is 0 and a sum is NULL; a count leaves out NULL
count_of_nothing : folded Count [] ≡ BigInt (pos 0)
count_of_nothing = refl

sum_of_nothing : folded Sum [] ≡ Null
sum_of_nothing = refl

-- finishing without keys gives one row for no partial rows
finished_without_keys : finish_rows 0 [] [] ≡ [] ∷ []
finished_without_keys = refl
