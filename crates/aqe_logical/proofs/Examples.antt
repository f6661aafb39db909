-- For each form of a plan a list of rows that answers it, and one that does not: a check of the meaning by hand.
use Rattle.std.proofs.Common.{◌≡◌, ℕ, zero, suc, List, [], ◌∷◌, refl, arith, pos, inl, inr, Some, true, false}
use Rattle.std.proofs.lemmas.List.Elements.{All-cons, All-nil}
use Rattle.std.proofs.lemmas.List.Sorted.{IsPermutation-refl, IsPermutation-append_comm, length_permutation}
use Rattle.aqe_base.specs.declared.stage_id.StageId.{StageId}
use Rattle.aqe_base.specs.declared.join_kind.JoinKind.TheVariants.{Inner, Cross}
use Rattle.aqe_values.specs.declared.value.Value.TheVariants.{Null, Boolean, Int}
use Rattle.aqe_expr.specs.declared.expr.Expr.{Expr, Column, Literal}
use Rattle.aqe_expr.specs.declared.expr.BinaryOp.TheVariants as binary
use Rattle.aqe_expr.specs.Shapes.{binary_of}
use Rattle.aqe_logical.specs.declared.plan.AggCall.{AggCall}
use Rattle.aqe_logical.specs.declared.plan.AggFun.TheVariants.{Min}
use Rattle.aqe_logical.specs.declared.plan.Placement.TheVariants.{Single}
use Rattle.aqe_logical.specs.declared.plan.SortKey.{SortKey}
use Rattle.aqe_logical.specs.declared.plan.Logical.{Logical, OneRow, Scan, Empty, Held, HeldPartial}
use Rattle.aqe_logical.specs.Shapes.{filtered, projected, joined, aggregated, united, sorted, limited, sampled}
use Rattle.aqe_logical.specs.Order.{before}
use Rattle.aqe_logical.specs.Answers.{Tables, Stages, Row, Answer}

abbrev row : ℕ → Row
row n = Int (pos n) ∷ []

-- table 0 has the rows 2 and 1, in two files
abbrev tables : Tables
tables = ((row 2 ∷ []) ∷ (row 1 ∷ []) ∷ []) ∷ []

-- stage 0 holds no rows, and each other the rows 2 and 1
abbrev stages : Stages
stages zero = []
stages (suc n) = row 2 ∷ row 1 ∷ []

abbrev stage_0 : StageId
stage_0 = record { 0 = 0 }

abbrev stage_1 : StageId
stage_1 = record { 0 = 1 }

abbrev scan : Logical
scan = Scan 0 []

abbrev yes_condition : Expr
yes_condition = Literal (Boolean true)

abbrev smaller_than_2 : Expr
smaller_than_2 = binary_of binary.Lt (Column 0) (Literal (Int (pos 2)))

abbrev smallest : AggCall
smallest = record { fun = Min; arg = Column 0 }

abbrev by_first : List SortKey
by_first = record { expr = Column 0; way = record { descending = false; nulls_last = false } } ∷ []

one_row : Answer tables stages OneRow ([] ∷ [])
one_row = refl

not_one_row : Answer tables stages OneRow [] → ⊥
not_one_row h = cc

-- the rows of a scan come in any order
scan_yes : Answer tables stages scan (row 1 ∷ row 2 ∷ [])
scan_yes = IsPermutation-append_comm (row 2 ∷ []) (row 1 ∷ [])

scan_in_order : Answer tables stages scan (row 2 ∷ row 1 ∷ [])
scan_in_order = IsPermutation-refl (row 2 ∷ row 1 ∷ [])

scan_not : Answer tables stages scan (row 1 ∷ []) → ⊥
scan_not h = let n = length_permutation (row 2 ∷ row 1 ∷ []) (row 1 ∷ []) h in absurd (cc)

empty_yes : Answer tables stages (Empty []) []
empty_yes = refl

empty_not : Answer tables stages (Empty []) ([] ∷ []) → ⊥
empty_not h = cc

filter_yes : Answer tables stages (filtered smaller_than_2 scan) (row 1 ∷ [])
filter_yes = (row 2 ∷ row 1 ∷ [], scan_in_order, refl)

filter_not : Answer tables stages (filtered yes_condition OneRow) [] → ⊥
filter_not (rows, a, e) = absurd (cc)

project_yes : Answer tables stages (projected (Column 0 ∷ Literal Null ∷ []) [] scan) ((Int (pos 2) ∷ Null ∷ []) ∷ (Int (pos 1) ∷ Null ∷ []) ∷ [])
project_yes = (row 2 ∷ row 1 ∷ [], scan_in_order, refl)

project_not : Answer tables stages (projected (Literal Null ∷ []) [] OneRow) ([] ∷ []) → ⊥
project_not (rows, a, e) = absurd (cc)

-- of the pairs of a row of the table with a row of the table, those with equal values
join_yes : Answer tables stages (joined Inner (binary_of binary.Eq (Column 0) (Column 1)) scan scan) ((Int (pos 2) ∷ Int (pos 2) ∷ []) ∷ (Int (pos 1) ∷ Int (pos 1) ∷ []) ∷ [])
join_yes = (row 2 ∷ row 1 ∷ [], row 2 ∷ row 1 ∷ [], scan_in_order, scan_in_order, IsPermutation-refl _)

join_not : Answer tables stages (joined Cross yes_condition OneRow OneRow) [] → ⊥
join_not (a, b, p, q, h) = let n = length_permutation _ [] h in absurd (cc)

aggregate_yes : Answer tables stages (aggregated [] (smallest ∷ []) [] scan) (row 1 ∷ [])
aggregate_yes = (row 2 ∷ row 1 ∷ [], scan_in_order, IsPermutation-refl _)

-- without keys there is one row, also over no rows
aggregate_not : Answer tables stages (aggregated [] [] [] (Empty [])) [] → ⊥
aggregate_not (rows, a, h) = let n = length_permutation _ [] h in absurd (cc)

union_yes : Answer tables stages (united OneRow (Empty [])) ([] ∷ [])
union_yes = ([] ∷ [], [], refl, refl, IsPermutation-refl _)

-- equal rows of both sides stay
union_not : Answer tables stages (united OneRow OneRow) ([] ∷ []) → ⊥
union_not (a, b, p, q, h) = let n = length_permutation _ _ h in absurd (cc)

sort_yes : Answer tables stages (sorted by_first scan) (row 1 ∷ row 2 ∷ [])
sort_yes = (
  row 2 ∷ row 1 ∷ [],
  scan_in_order,
  scan_yes,
  (All-cons (λ (y : Row). before by_first y (row 1) ≡ false) (row 2) [] refl (All-nil _), (All-nil _, tt)),
)

-- 1 stands before 2
sort_not : Answer tables stages (sorted by_first scan) (row 2 ∷ row 1 ∷ []) → ⊥
sort_not (rows, a, p, (first, rest)) = let e = first 0 [] (omega arith) in absurd (cc)

limit_yes : Answer tables stages (limited (Some 1) 1 scan) (row 1 ∷ [])
limit_yes = (row 2 ∷ row 1 ∷ [], scan_in_order, refl)

limit_not : Answer tables stages (limited (Some 0) 0 OneRow) ([] ∷ []) → ⊥
limit_not (rows, a, e) = absurd (cc)

-- of one part, the rows come as the stage holds them
held_yes : Answer tables stages (Held stage_1 Single []) (row 2 ∷ row 1 ∷ [])
held_yes = (IsPermutation-refl _, refl)

held_not : Answer tables stages (Held stage_1 Single []) (row 1 ∷ row 2 ∷ []) → ⊥
held_not (p, e) = absurd (cc)

-- partial rows without keys are merged into one
partial_yes : Answer tables stages (HeldPartial stage_1 (smallest ∷ []) []) (row 1 ∷ [])
partial_yes = IsPermutation-refl _

partial_not : Answer tables stages (HeldPartial stage_0 [] []) [] → ⊥
partial_not h = let n = length_permutation _ [] h in absurd (cc)

sampled_yes : Answer tables stages (sampled stage_1 OneRow) ([] ∷ [])
sampled_yes = inl refl

-- where the sample holds no rows, no row is an answer too
sampled_empty : Answer tables stages (sampled stage_0 OneRow) []
sampled_empty = inr (refl, refl)

sampled_not : Answer tables stages (sampled stage_1 OneRow) [] → ⊥
sampled_not (inl e) = absurd (cc)
sampled_not (inr (e, s)) = absurd (cc)
