-- A join of rows in another order.
use Rattle.std.proofs.Common.{ℕ, Bool, List, [], ◌∷◌, ◌++◌, map, arith}
use Rattle.std.specs.Prelude.{filter, IsPermutation}
use Rattle.std.proofs.lemmas.List.Sorted.{IsPermutation-refl, IsPermutation-trans, IsPermutation-append, IsPermutation-map, length_permutation}
use Rattle.aqe_base.specs.declared.join_kind.JoinKind.{JoinKind}
use Rattle.aqe_base.specs.declared.join_kind.JoinKind.TheVariants.{Inner, Cross, LeftOuter, RightOuter, FullOuter, LeftSemi, LeftAnti}
use Rattle.aqe_values.specs.Equality.{row_eq}
use Rattle.aqe_logical.specs.Answers.{Row}
use Rattle.aqe_logical.specs.Joins.{nulls, where_none, with_matches, left_over, half, pairs}
use Rattle.aqe_logical.proofs.Rearranged.{filter-permuted, flat_map-permuted, flat_map-each}
use Rattle.aqe_logical.proofs.Rows.{rows_same}

abbrev Respects : (Row → List Row → List Row) → Type 0
Respects each = (x : Row) (ms ns : List Row) → IsPermutation ms ns → IsPermutation (each x ms) (each x ns)

where_none-permuted : (ms ns lone met met' : List Row) → IsPermutation ms ns → IsPermutation met met' → IsPermutation (where_none ms lone met) (where_none ns lone met')
where_none-permuted [] [] lone met met' h k = IsPermutation-refl lone
where_none-permuted [] (n ∷ ns) lone met met' h k = absurd (let impossible : ⊥ = omega (arith, length_permutation [] (n ∷ ns) h) in impossible)
where_none-permuted (m ∷ ms) [] lone met met' h k = absurd (let impossible : ⊥ = omega (arith, length_permutation (m ∷ ms) [] h) in impossible)
where_none-permuted (m ∷ ms) (n ∷ ns) lone met met' h k = k

with_matches-respects : (kind : JoinKind) (w : ℕ) → Respects (with_matches kind w)
with_matches-respects Inner w x ms ns h = IsPermutation-map (λ y. x ++ y) ms ns h
with_matches-respects Cross w x ms ns h = IsPermutation-map (λ y. x ++ y) ms ns h
with_matches-respects RightOuter w x ms ns h = IsPermutation-map (λ y. x ++ y) ms ns h
with_matches-respects LeftOuter w x ms ns h = where_none-permuted ms ns ((x ++ nulls w) ∷ []) (map (λ y. x ++ y) ms) (map (λ y. x ++ y) ns) h (IsPermutation-map (λ y. x ++ y) ms ns h)
with_matches-respects FullOuter w x ms ns h = where_none-permuted ms ns ((x ++ nulls w) ∷ []) (map (λ y. x ++ y) ms) (map (λ y. x ++ y) ns) h (IsPermutation-map (λ y. x ++ y) ms ns h)
with_matches-respects LeftSemi w x ms ns h = where_none-permuted ms ns [] (x ∷ []) (x ∷ []) h (IsPermutation-refl (x ∷ []))
with_matches-respects LeftAnti w x ms ns h = where_none-permuted ms ns (x ∷ []) [] [] h (IsPermutation-refl {X = Row} [])

left_over-respects : (kind : JoinKind) (v : ℕ) → Respects (left_over kind v)
left_over-respects RightOuter v y ms ns h = where_none-permuted ms ns ((nulls v ++ y) ∷ []) [] [] h (IsPermutation-refl {X = Row} [])
left_over-respects FullOuter v y ms ns h = where_none-permuted ms ns ((nulls v ++ y) ∷ []) [] [] h (IsPermutation-refl {X = Row} [])
left_over-respects Inner v y ms ns h = IsPermutation-refl {X = Row} []
left_over-respects Cross v y ms ns h = IsPermutation-refl {X = Row} []
left_over-respects LeftOuter v y ms ns h = IsPermutation-refl {X = Row} []
left_over-respects LeftSemi v y ms ns h = IsPermutation-refl {X = Row} []
left_over-respects LeftAnti v y ms ns h = IsPermutation-refl {X = Row} []

half-permuted : (each : Row → List Row → List Row) → Respects each → (meets : Row → Row → Bool) (a a' b b' : List Row) → IsPermutation a a' → IsPermutation b b' → IsPermutation (half each meets a b) (half each meets a' b')
half-permuted each respects meets a a' b b' h k =
    IsPermutation-trans (half each meets a b) (half each meets a b') (half each meets a' b')
    (flat_map-each (λ x. each x (filter (meets x) b)) (λ x. each x (filter (meets x) b'))
    (λ x. respects x (filter (meets x) b) (filter (meets x) b') (filter-permuted row_eq rows_same (meets x) b b' k)) a)
    (flat_map-permuted row_eq rows_same (λ x. each x (filter (meets x) b')) a a' h)

pub pairs-permuted : (kind : JoinKind) (v w : ℕ) (meets : Row → Row → Bool) (a a' b b' : List Row) → IsPermutation a a' → IsPermutation b b' → IsPermutation (pairs kind v w meets a b) (pairs kind v w meets a' b')
pairs-permuted kind v w meets a a' b b' h k =
    IsPermutation-append (half (with_matches kind w) meets a b) (half (with_matches kind w) meets a' b')
    (half (left_over kind v) (λ y x. meets x y) b a) (half (left_over kind v) (λ y x. meets x y) b' a')
    (half-permuted (with_matches kind w) (with_matches-respects kind w) meets a a' b b' h k)
    (half-permuted (left_over kind v) (left_over-respects kind v) (λ y x. meets x y) b b' a a' k h)
