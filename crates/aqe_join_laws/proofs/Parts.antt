-- Joins of parts in which rows that meet stand at one number.
use Rattle.std.proofs.Common.{◌≡◌, ℕ, ◌+◌, ◌<◌, Bool, true, false, cond, List, [], ◌∷◌, ◌++◌, length, refl, ap, sym, ◌∙◌, arith, append-nil, subst}
use Rattle.std.specs.Prelude.{filter, All, IsPermutation}
use Rattle.std.proofs.lemmas.List.Concat.{flat_map-append}
use Rattle.std.proofs.lemmas.List.Elements.{All-nil, All-head, All-tail, All-append, All-weaker, filter-append}
use Rattle.std.proofs.lemmas.List.Sorted.{IsPermutation-refl, IsPermutation-trans, IsPermutation-append_right}
use Rattle.aqe_base.specs.declared.join_kind.JoinKind.{JoinKind}
use Rattle.aqe_values.specs.Equality.{row_eq}
use Rattle.aqe_logical.specs.Answers.{Row}
use Rattle.aqe_logical.specs.Joins.{with_matches, left_over, half, pairs}
use Rattle.aqe_logical.proofs.Rearranged.{total, total-append, bit, from_counts, permuted}
use Rattle.aqe_logical.proofs.Rows.{rows_same}
use Rattle.aqe_partial.specs.PartialRows.{joined_parts}
use Rattle.aqe_places.specs.Laws.{Placed}
use Rattle.aqe_stages.specs.Parts.{side_by_side}
use Rattle.aqe_join_laws.specs.Laws.{JoinsOfPlacedParts}

crossed : (f : Row → ℕ) (p q r s : List Row) → total f ((p ++ q) ++ (r ++ s)) ≡ total f ((p ++ r) ++ (q ++ s))
crossed f p q r s =
    let whole = total-append f (p ++ q) (r ++ s) in
    let other = total-append f (p ++ r) (q ++ s) in
    omega (arith, whole, other, total-append f p q, total-append f r s, total-append f p r, total-append f q s)

-- two lists and two lists, taken crosswise
crosswise : (p q r s : List Row) → IsPermutation ((p ++ q) ++ (r ++ s)) ((p ++ r) ++ (q ++ s))
crosswise p q r s =
    permuted ((p ++ q) ++ (r ++ s)) ((p ++ r) ++ (q ++ s))
    (from_counts row_eq rows_same ((p ++ q) ++ (r ++ s)) ((p ++ r) ++ (q ++ s)) (λ k. crossed (λ x. bit (row_eq k x)) p q r s))

no_pass : (p : Row → Bool) (xs : List Row) → All (λ x. p x ≡ false) xs → filter p xs ≡ []
no_pass p [] h = refl
no_pass p (x ∷ xs) h =
    ap (λ b. cond b (x ∷ filter p xs) (filter p xs)) (All-head (λ y. p y ≡ false) x xs h) ∙ no_pass p xs (All-tail (λ y. p y ≡ false) x xs h)

abbrev At : (Row → ℕ) → ℕ → Row → Type 0
At place a row = place row ≡ a

abbrev After : (Row → ℕ) → ℕ → Row → Type 0
After place a row = a < place row

-- one half of a join, of sides that each have a front with one place and a rest with later places
module _ (each : Row → List Row → List Row) (meets : Row → Row → Bool) (f g : Row → ℕ) (one : (x y : Row) → meets x y ≡ true → f x ≡ g y) where
  apart_after : (a : ℕ) (x : Row) → f x ≡ a → (y : Row) → a < g y → meets x y ≡ false
  apart_after a x e y lt = by (meets x y) refl
    where
      by : (b : Bool) → meets x y ≡ b → b ≡ false
      by false h = refl
      by true h = absurd (let same : f x ≡ g y = one x y h in let no : ⊥ = omega (arith, same, e, lt) in no)

  apart_before : (a : ℕ) (x : Row) → a < f x → (y : Row) → g y ≡ a → meets x y ≡ false
  apart_before a x lt y e = by (meets x y) refl
    where
      by : (b : Bool) → meets x y ≡ b → b ≡ false
      by false h = refl
      by true h = absurd (let same : f x ≡ g y = one x y h in let no : ⊥ = omega (arith, same, e, lt) in no)

  module _ (a : ℕ) (b c : List Row) (here : All (At g a) b) (later : All (After g a) c) where
    front : (xs : List Row) → All (At f a) xs → half each meets xs (b ++ c) ≡ half each meets xs b
    front [] h = refl
    front (x ∷ xs) h =
        let none : filter (meets x) c ≡ [] = no_pass (meets x) c (All-weaker (After g a) (λ y. meets x y ≡ false) (apart_after a x (All-head (At f a) x xs h)) c later) in
        let met : filter (meets x) (b ++ c) ≡ filter (meets x) b =
        filter-append (meets x) b c ∙ (ap (λ ys. filter (meets x) b ++ ys) none ∙ append-nil (filter (meets x) b)) in
        λ i. each x (met i) ++ front xs (All-tail (At f a) x xs h) i

    rest : (xs : List Row) → All (After f a) xs → half each meets xs (b ++ c) ≡ half each meets xs c
    rest [] h = refl
    rest (x ∷ xs) h =
        let none : filter (meets x) b ≡ [] = no_pass (meets x) b (All-weaker (At g a) (λ y. meets x y ≡ false) (apart_before a x (All-head (After f a) x xs h)) b here) in
        let met : filter (meets x) (b ++ c) ≡ filter (meets x) c =
        filter-append (meets x) b c ∙ ap (λ ys. ys ++ filter (meets x) c) none in
        λ i. each x (met i) ++ rest xs (All-tail (After f a) x xs h) i

    pub halves : (xs ys : List Row) → All (At f a) xs → All (After f a) ys → half each meets (xs ++ ys) (b ++ c) ≡ half each meets xs b ++ half each meets ys c
    halves xs ys h k =
        flat_map-append (λ x. each x (filter (meets x) (b ++ c))) xs ys ∙ (λ i. front xs h i ++ rest ys k i)

pub placed_later : (place : Row → ℕ) (a b : ℕ) (parts : List (List Row)) → a < b → Placed place b parts → All (λ row. a < place row) (joined_parts parts)
placed_later place a b [] lt h = All-nil (λ row. a < place row)
placed_later place a b (part ∷ parts) lt (h, k) =
    All-append (λ row. a < place row) part (joined_parts parts)
    (All-weaker (λ row. place row ≡ b) (λ row. a < place row) (λ row e. omega (arith, lt, e)) part h)
    (placed_later place a (b + 1) parts (omega (arith, lt)) k)

module _ (kind : JoinKind) (v w : ℕ) (meets : Row → Row → Bool) (f g : Row → ℕ) (one : (x y : Row) → meets x y ≡ true → f x ≡ g y) where
  two : (a : ℕ) (x y b c : List Row) → All (λ row. f row ≡ a) x → All (λ row. a < f row) y → All (λ row. g row ≡ a) b → All (λ row. a < g row) c →
      IsPermutation (pairs kind v w meets (x ++ y) (b ++ c)) (pairs kind v w meets x b ++ pairs kind v w meets y c)
  two a x y b c h k m n =
      subst (λ (rows : List Row). IsPermutation rows (pairs kind v w meets x b ++ pairs kind v w meets y c))
      (λ i. sym (halves (with_matches kind w) meets f g one a b c m n x y h k) i ++
      sym (halves (left_over kind v) (λ r l. meets l r) g f (λ r l e. sym (one l r e)) a x y h k b c m n) i)
      (crosswise (half (with_matches kind w) meets x b) (half (with_matches kind w) meets y c)
      (half (left_over kind v) (λ r l. meets l r) b x) (half (left_over kind v) (λ r l. meets l r) c y))

  pub by_number : (a : ℕ) (as_ bs : List (List Row)) → Placed f a as_ → Placed g a bs → length as_ ≡ length bs →
      IsPermutation (pairs kind v w meets (joined_parts as_) (joined_parts bs)) (joined_parts (side_by_side (pairs kind v w meets) as_ bs))
  by_number a [] [] h k e = IsPermutation-refl {X = Row} []
  by_number a [] (b ∷ bs) h k e = absurd (let no : ⊥ = omega (arith, e) in no)
  by_number a (x ∷ as_) [] h k e = absurd (let no : ⊥ = omega (arith, e) in no)
  by_number a (x ∷ as_) (b ∷ bs) (h, hs) (k, ks) e =
      IsPermutation-trans (pairs kind v w meets (x ++ joined_parts as_) (b ++ joined_parts bs))
      (pairs kind v w meets x b ++ pairs kind v w meets (joined_parts as_) (joined_parts bs))
      (pairs kind v w meets x b ++ joined_parts (side_by_side (pairs kind v w meets) as_ bs))
      (two a x (joined_parts as_) b (joined_parts bs) h (placed_later f a (a + 1) as_ (omega arith) hs) k (placed_later g a (a + 1) bs (omega arith) ks))
      (IsPermutation-append_right (pairs kind v w meets x b) (pairs kind v w meets (joined_parts as_) (joined_parts bs)) (joined_parts (side_by_side (pairs kind v w meets) as_ bs))
      (by_number (a + 1) as_ bs hs ks (omega (arith, e))))

pub of_placed_parts : JoinsOfPlacedParts
of_placed_parts kind v w meets f g as_ bs one h k e = by_number kind v w meets f g one 0 as_ bs h k e
