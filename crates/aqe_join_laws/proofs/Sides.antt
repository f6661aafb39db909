-- The joined parts of two sides are the rows of the join of the wholes.
use Rattle.std.proofs.Common.{◌≡◌, ℕ, Bool, IsTrue, List, [], ◌∷◌, ◌++◌, map, refl, ap, sym, ◌∙◌, append-nil, subst}
use Rattle.std.specs.Prelude.{filter, IsPermutation}
use Rattle.std.proofs.lemmas.List.Concat.{flat_map-append}
use Rattle.std.proofs.lemmas.List.Sorted.{IsPermutation-refl, IsPermutation-trans, IsPermutation-append}
use Rattle.aqe_base.specs.declared.join_kind.JoinKind.{JoinKind}
use Rattle.aqe_base.specs.declared.join_kind.JoinKind.TheVariants.{Inner, Cross, LeftOuter, RightOuter, FullOuter, LeftSemi, LeftAnti}
use Rattle.aqe_base.specs.declared.join_kind.Side.TheVariants.{Left, Right}
use Rattle.aqe_base.specs.Joins.{may_build}
use Rattle.aqe_logical.specs.Answers.{Row}
use Rattle.aqe_logical.specs.Joins.{with_matches, left_over, half, pairs}
use Rattle.aqe_partial.specs.PartialRows.{joined_parts}
use Rattle.aqe_places.specs.Places.{by_hash}
use Rattle.aqe_join_rows.specs.Matching.{matches}
use Rattle.aqe_join_rows.specs.Orders.{with_left_matches}
use Rattle.aqe_physical.specs.declared.target.JoinWay.TheVariants as way
use Rattle.aqe_stages.specs.Parts.{join_rows, side_by_side}
use Rattle.aqe_join_laws.specs.Laws.{JoinsWithAWholeRight, JoinsWithAWholeLeft, JoinedSidesOverAPlace, JoinedSidesAreTheJoin}
use Rattle.aqe_join_laws.proofs.Orders.{merged, from_the_right, each_way}
use Rattle.aqe_join_laws.proofs.KeyRows.{one_place}
use Rattle.aqe_join_laws.proofs.Parts.{of_placed_parts}

-- one half of a join goes part by part over the side that it walks
walked : (each : Row → List Row → List Row) (meets : Row → Row → Bool) (parts : List (List Row)) (others : List Row) →
    joined_parts (map (λ part. half each meets part others) parts) ≡ half each meets (joined_parts parts) others
walked each meets [] others = refl
walked each meets (part ∷ parts) others =
    ap (λ rows. half each meets part others ++ rows) (walked each meets parts others) ∙
    sym (flat_map-append (λ x. each x (filter (meets x) others)) part (joined_parts parts))

abbrev no_row : Row → List Row → List Row
no_row y ms = []

none_given : (meets : Row → Row → Bool) (rows others : List Row) → half no_row meets rows others ≡ []
none_given meets [] others = refl
none_given meets (row ∷ rows) others = none_given meets rows others

none_over : (kind : JoinKind) (v : ℕ) (meets : Row → Row → Bool) (rows others : List Row) → IsTrue (may_build kind Right) →
    half (left_over kind v) meets rows others ≡ []
none_over Inner v meets rows others h = none_given meets rows others
none_over Cross v meets rows others h = none_given meets rows others
none_over LeftOuter v meets rows others h = none_given meets rows others
none_over LeftSemi v meets rows others h = none_given meets rows others
none_over LeftAnti v meets rows others h = none_given meets rows others
none_over RightOuter v meets rows others h = absurd (cc)
none_over FullOuter v meets rows others h = absurd (cc)

left_alone : (kind : JoinKind) (v w : ℕ) (meets : Row → Row → Bool) (a b : List Row) → IsTrue (may_build kind Right) →
    pairs kind v w meets a b ≡ half (with_matches kind w) meets a b
left_alone kind v w meets a b h =
    ap (λ rows. half (with_matches kind w) meets a b ++ rows) (none_over kind v (λ y x. meets x y) b a h) ∙ append-nil (half (with_matches kind w) meets a b)

pub whole_right : JoinsWithAWholeRight
whole_right kind v w meets as_ b h =
    (λ i. joined_parts (map (λ a. left_alone kind v w meets a b h i) as_)) ∙
    (walked (with_matches kind w) meets as_ b ∙ sym (left_alone kind v w meets (joined_parts as_) b h))

pub whole_left : JoinsWithAWholeLeft
whole_left kind v keys a bs = walked (with_left_matches kind v) (λ y x. matches keys x y) bs a

-- parts whose joins have the same rows, taken side by side
each_beside : (join other : List Row → List Row → List Row) → ((a b : List Row) → IsPermutation (join a b) (other a b)) → (as_ bs : List (List Row)) →
    IsPermutation (joined_parts (side_by_side join as_ bs)) (joined_parts (side_by_side other as_ bs))
each_beside join other h [] bs = IsPermutation-refl {X = Row} []
each_beside join other h (a ∷ as_) [] =
    IsPermutation-append (join a []) (other a []) (joined_parts (side_by_side join as_ [])) (joined_parts (side_by_side other as_ [])) (h a []) (each_beside join other h as_ [])
each_beside join other h (a ∷ as_) (b ∷ bs) =
    IsPermutation-append (join a b) (other a b) (joined_parts (side_by_side join as_ bs)) (joined_parts (side_by_side other as_ bs)) (h a b) (each_beside join other h as_ bs)

pub over_a_place : JoinedSidesOverAPlace
over_a_place way.SortMerge kind keys v w f g as_ bs one serve (h, k) =
    IsPermutation-trans (pairs kind v w (matches keys) (joined_parts as_) (joined_parts bs))
    (joined_parts (side_by_side (pairs kind v w (matches keys)) as_ bs))
    (joined_parts (side_by_side (join_rows way.SortMerge kind keys v w) as_ bs))
    (of_placed_parts kind v w (matches keys) f g as_ bs one h k serve)
    (each_beside (pairs kind v w (matches keys)) (join_rows way.SortMerge kind keys v w) (λ a b. merged kind v w keys a b) as_ bs)
over_a_place (way.ShuffledHash side) kind keys v w f g as_ bs one serve (h, k) =
    IsPermutation-trans (pairs kind v w (matches keys) (joined_parts as_) (joined_parts bs))
    (joined_parts (side_by_side (pairs kind v w (matches keys)) as_ bs))
    (joined_parts (side_by_side (join_rows (way.ShuffledHash side) kind keys v w) as_ bs))
    (of_placed_parts kind v w (matches keys) f g as_ bs one h k serve.0)
    (each_beside (pairs kind v w (matches keys)) (join_rows (way.ShuffledHash side) kind keys v w) (λ a b. each_way (way.ShuffledHash side) kind keys v w a b serve.1) as_ bs)
over_a_place (way.Broadcast Left) kind keys v w f g as_ bs one serve stand =
    subst (λ (rows : List Row). IsPermutation (pairs kind v w (matches keys) (joined_parts as_) (joined_parts bs)) rows)
    (sym (whole_left kind v keys (joined_parts as_) bs)) (from_the_right kind v w keys (joined_parts as_) (joined_parts bs) serve.1)
over_a_place (way.Broadcast Right) kind keys v w f g as_ bs one serve stand =
    subst (λ (rows : List Row). IsPermutation (pairs kind v w (matches keys) (joined_parts as_) (joined_parts bs)) rows)
    (sym (whole_right kind v w (matches keys) as_ (joined_parts bs) serve.1)) (IsPermutation-refl (pairs kind v w (matches keys) (joined_parts as_) (joined_parts bs)))
over_a_place way.NestedLoop kind keys v w f g as_ bs one serve stand =
    subst (λ (rows : List Row). IsPermutation (pairs kind v w (matches keys) (joined_parts as_) (joined_parts bs)) rows)
    (sym (append-nil (pairs kind v w (matches keys) (joined_parts as_) (joined_parts bs)))) (IsPermutation-refl (pairs kind v w (matches keys) (joined_parts as_) (joined_parts bs)))

pub sides_are_the_join : JoinedSidesAreTheJoin
sides_are_the_join how kind keys v w n as_ bs serve stand =
    over_a_place how kind keys v w (by_hash n keys.left) (by_hash n keys.right) as_ bs (λ x y m. one_place n keys x y m) serve stand
