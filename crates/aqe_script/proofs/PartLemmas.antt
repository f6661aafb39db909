-- The first place of a list that passes a test, and the parts of a list between such places.
use Rattle.std.proofs.Common.{ℕ, zero, suc, List, [], ◌∷◌, ◌≡◌, ◌≤◌, ◌<◌, ◌+◌, ◌-◌, Bool, true, false, not, length, take, drop, get_or, sym, subst, arith, inl, inr}
use Rattle.std.specs.List.{position_or_len, slice_split}
use Rattle.aqe_lexer.specs.declared.token.Token.{Token}
use Rattle.aqe_lexer.specs.Spans.{InOrder}
use Rattle.std.proofs.lemmas.Bool.{cases_lt}
use Rattle.std.proofs.lemmas.List.{take_all, length-drop}
use Rattle.std.proofs.lemmas.List.Elements.{All-from_get_or}
use Rattle.std.proofs.lemmas.List.Splits.{slice_split_none, slice_split_first}
use Rattle.std.proofs.lemmas.List.Sums.{fails_before_first, passes_at_first, prefix_len-le-length}

-- one that passes, and before which none does, is the first
pub first_here : {X : Type 0} (p : X → Bool) (xs : List X) (i : ℕ) (d : X) → i ≤ position_or_len p xs → p (get_or xs i d) ≡ true → i ≡ position_or_len p xs
first_here p xs i d h e = elim (cases_lt i (position_or_len p xs)) [
  | inl low ↦ let no = fails_before_first p xs i d low in absurd (cc)
  | inr high ↦ omega (arith, h, high)
]

-- one that does not pass is before the first that does
pub first_later : {X : Type 0} (p : X → Bool) (xs : List X) (i : ℕ) (d : X) → i ≤ position_or_len p xs → i < length xs → p (get_or xs i d) ≡ false → i + 1 ≤ position_or_len p xs
first_later p xs i d h l e = elim (cases_lt i (position_or_len p xs)) [
  | inl low ↦ omega (arith, low)
  | inr high ↦
      let same : position_or_len p xs ≡ i = omega (arith, h, high) in
      let yes : p (get_or xs i d) ≡ true = subst (λ (n : ℕ). p (get_or xs n d) ≡ true) same (passes_at_first p xs d (omega (arith, same, l))) in
      absurd (cc)
]

-- behind the last place none is left
pub first_none : {X : Type 0} (p : X → Bool) (xs : List X) (i : ℕ) → i ≤ position_or_len p xs → length xs ≤ i → length xs ≡ position_or_len p xs
first_none p xs i h l = omega (arith, h, l, prefix_len-le-length (λ x. not (p x)) xs)

-- where none passes, the list is the one part
pub one_part : {X : Type 0} (p : X → Bool) (xs : List X) (d : X) → position_or_len p xs ≡ length xs → slice_split p xs ≡ xs ∷ []
one_part p xs d e = slice_split_none p xs (All-from_get_or (λ x. p x ≡ false) xs d (λ i h. fails_before_first p xs i d (omega (arith, e, h))))

-- where one passes, the list is what stands before it, and the parts of what stands behind it
pub two_parts : {X : Type 0} (p : X → Bool) (xs : List X) (n : ℕ) (d : X) → n ≡ position_or_len p xs → n < length xs →
    slice_split p xs ≡ take n xs ∷ slice_split p (take (length xs - (n + 1)) (drop (n + 1) xs))
two_parts p xs n d e h =
    let first = slice_split_first p xs d (omega (arith, sym e, h)) in
    let whole : take (length xs - (n + 1)) (drop (n + 1) xs) ≡ drop (n + 1) xs = take_all _ _ (omega (arith, length-drop (n + 1) xs)) in
    subst (λ (ys : List _). slice_split p xs ≡ take n xs ∷ slice_split p ys) (sym whole)
    (subst (λ (m : ℕ). slice_split p xs ≡ take m xs ∷ slice_split p (drop (m + 1) xs)) (sym e) first)

in_order_low : (at : ℕ) (ts : List Token) → InOrder at ts → InOrder 0 ts
in_order_low at [] o = tt
in_order_low at (t ∷ ts) o = (omega arith, o.1)

in_order_take : (n at : ℕ) (ts : List Token) → InOrder at ts → InOrder at (take n ts)
in_order_take zero at ts o = tt
in_order_take (suc n) at [] o = tt
in_order_take (suc n) at (t ∷ ts) o = (o.0, in_order_take n t.end ts o.1)

in_order_drop : (n at : ℕ) (ts : List Token) → InOrder at ts → InOrder 0 (drop n ts)
in_order_drop zero at ts o = in_order_low at ts o
in_order_drop (suc n) at [] o = tt
in_order_drop (suc n) at (t ∷ ts) o = in_order_drop n t.end ts o.1

-- the parts of tokens in order are in order
pub parts_in_order : (n k : ℕ) (ts : List Token) → InOrder 0 ts → InOrder 0 (take n ts) × InOrder 0 (take k (drop (n + 1) ts))
parts_in_order n k ts o = (in_order_take n 0 ts o, in_order_take k 0 (drop (n + 1) ts) (in_order_drop (n + 1) 0 ts o))
