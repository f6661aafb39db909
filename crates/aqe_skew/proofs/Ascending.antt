-- Sorted sizes are the sizes in rising order.
use Rattle.std.proofs.Common.{◌≡◌, ℕ, suc, ◌+◌, ◌<◌, ◌≤◌, ◌==◌, Bool, true, false, cond, List, [], ◌∷◌, length, get_or, refl, ap, sym, ◌∙◌, arith, inl, inr}
use Rattle.std.specs.Prelude.{All, sum, sum_by, nat_le, IsPermutation, IsSorted}
use Rattle.std.specs.Ordering.{nat_cmp}
use Rattle.std.specs.List.Sorted.{IsNonDecreasing}
use Rattle.std.proofs.lemmas.Bool.{cases_lt}
use Rattle.std.proofs.lemmas.Bool.Decides.{nat_tests}
use Rattle.std.proofs.lemmas.List.Elements.{All-nil, All-cons, All-head, All-tail, All-weaker}
use Rattle.std.proofs.lemmas.List.Sums.{sum_by-cons, get_or-le-sum_by}
use Rattle.std.proofs.lemmas.List.Sorted.{sum_by-IsPermutation, length_permutation, IsNonDecreasingBy-from_sort}
use Rattle.aqe_skew.specs.Skewed.{put_in, rising}

pub item_le : (xs : List ℕ) (i : ℕ) → i < length xs → get_or xs i 0 ≤ sum xs
item_le xs i lt = get_or-le-sum_by (λ x. x) xs i 0 lt

pub same_total : (xs ys : List ℕ) → IsPermutation xs ys → sum ys ≡ sum xs
same_total xs ys moved = sum_by-IsPermutation (λ x. x) xs ys moved

pub same_length : (xs ys : List ℕ) → IsPermutation xs ys → length ys ≡ length xs
same_length xs ys moved = length_permutation xs ys moved

-- each size is at most all behind it
abbrev Rises : List ℕ → Type 0
Rises [] = Unit {0}
Rises (x ∷ xs) = All (λ y. x ≤ y) xs × Rises xs

-- how often a size stands in a list
abbrev times : ℕ → List ℕ → ℕ
times v xs = sum_by (λ x. cond (x == v) 1 0) xs

times_cons : (v x : ℕ) (xs : List ℕ) → times v (x ∷ xs) ≡ cond (x == v) 1 0 + times v xs
times_cons v x xs = sum_by-cons (λ y. cond (y == v) 1 0) x xs

times_above : (v : ℕ) (xs : List ℕ) → All (λ y. v < y) xs → times v xs ≡ 0
times_above v [] above = refl
times_above v (x ∷ xs) above =
    let here : v < x = All-head (λ y. v < y) x xs above in
    let rest : times v xs ≡ 0 = times_above v xs (All-tail (λ y. v < y) x xs above) in
    times_cons v x xs ∙ grind (arith, nat_tests, here, rest)

-- two rising lists with each size as often are equal
one_rising : (xs ys : List ℕ) → Rises xs → Rises ys → ((v : ℕ) → times v xs ≡ times v ys) → xs ≡ ys
one_rising [] [] up_x up_y same = refl
one_rising [] (y ∷ ys) up_x up_y same =
    let e : times y (y ∷ ys) ≡ cond (y == y) 1 0 + times y ys = times_cons y y ys in
    let none : 0 ≡ times y (y ∷ ys) = same y in
    absurd (let no : ⊥ = grind (arith, nat_tests, e, none) in no)
one_rising (x ∷ xs) [] up_x up_y same =
    let e : times x (x ∷ xs) ≡ cond (x == x) 1 0 + times x xs = times_cons x x xs in
    let none : times x (x ∷ xs) ≡ 0 = same x in
    absurd (let no : ⊥ = grind (arith, nat_tests, e, none) in no)
one_rising (x ∷ xs) (y ∷ ys) up_x up_y same =
    let first : x ≡ y = as_large x y (not_below x y xs ys up_y same) (not_below y x ys xs up_x (λ v. sym (same v))) in
    λ i. first i ∷ one_rising xs ys up_x.1 up_y.1 (λ v. behind v first) i
  where
    not_below : (a b : ℕ) (xs' bs : List ℕ) → Rises (b ∷ bs) → ((v : ℕ) → times v (a ∷ xs') ≡ times v (b ∷ bs)) → a < b → ⊥
    not_below a b xs' bs up equal lt =
        let none : times a (b ∷ bs) ≡ 0 = times_above a (b ∷ bs) (All-cons (λ z. a < z) b bs lt (All-weaker (λ z. b ≤ z) (λ z. a < z) (λ z le. omega (arith, le, lt)) bs up.0)) in
        let some : times a (a ∷ xs') ≡ cond (a == a) 1 0 + times a xs' = times_cons a a xs' in
        let e : times a (a ∷ xs') ≡ times a (b ∷ bs) = equal a in
        grind (arith, nat_tests, none, some, e)

    as_large : (a b : ℕ) → (a < b → ⊥) → (b < a → ⊥) → a ≡ b
    as_large a b not_less not_more = elim (cases_lt a b) [
      | inl less ↦ absurd (not_less less)
      | inr le ↦ elim (cases_lt b a) [ inl more ↦ absurd (not_more more) | inr ge ↦ omega (arith, le, ge) ]
    ]

    behind : (v : ℕ) → x ≡ y → times v xs ≡ times v ys
    behind v first =
        let all : times v (x ∷ xs) ≡ times v (y ∷ ys) = same v in
        let here : times v (x ∷ xs) ≡ cond (x == v) 1 0 + times v xs = times_cons v x xs in
        let there : times v (y ∷ ys) ≡ cond (y == v) 1 0 + times v ys = times_cons v y ys in
        let firsts : cond {A = ℕ} (x == v) 1 0 ≡ cond (y == v) 1 0 = ap (λ a. cond (a == v) 1 0) first in
        omega (arith, all, here, there, firsts)

-- sizes put in order rise, and are those that were there
put_all : (a x : ℕ) (ys : List ℕ) → a ≤ x → All (λ y. a ≤ y) ys → All (λ y. a ≤ y) (put_in x ys)
put_all a x [] le all = All-cons (λ y. a ≤ y) x [] le all
put_all a x (y ∷ ys) le all = by (put_all a x ys le (All-tail (λ z. a ≤ z) y ys all)) (nat_le x y)
  where
    by : All (λ z. a ≤ z) (put_in x ys) → (b : Bool) → All (λ z. a ≤ z) (cond b (x ∷ y ∷ ys) (y ∷ put_in x ys))
    by rest true = All-cons (λ z. a ≤ z) x (y ∷ ys) le all
    by rest false = All-cons (λ z. a ≤ z) y (put_in x ys) (All-head (λ z. a ≤ z) y ys all) rest

put_rises : (x : ℕ) (ys : List ℕ) → Rises ys → Rises (put_in x ys)
put_rises x [] up = (All-nil (λ y. x ≤ y), tt)
put_rises x (y ∷ ys) up = by (put_rises x ys up.1) (nat_le x y) refl
  where
    by : Rises (put_in x ys) → (b : Bool) → nat_le x y ≡ b → Rises (cond b (x ∷ y ∷ ys) (y ∷ put_in x ys))
    by rest true test =
        let le : x ≤ y = grind (arith, nat_tests, test) in
        (All-cons (λ z. x ≤ z) y ys le (All-weaker (λ z. y ≤ z) (λ z. x ≤ z) (λ z more. omega (arith, le, more)) ys up.0), up)
    by rest false test =
        let le : y ≤ x = grind (arith, nat_tests, test) in
        (put_all y x ys le up.0, rest)

put_times : (v x : ℕ) (ys : List ℕ) → times v (put_in x ys) ≡ times v (x ∷ ys)
put_times v x [] = refl
put_times v x (y ∷ ys) = by (put_times v x ys) (nat_le x y)
  where
    by : times v (put_in x ys) ≡ times v (x ∷ ys) → (b : Bool) → times v (cond b (x ∷ y ∷ ys) (y ∷ put_in x ys)) ≡ times v (x ∷ y ∷ ys)
    by b true = refl
    by b false =
        let a : times v (y ∷ put_in x ys) ≡ cond (y == v) 1 0 + times v (put_in x ys) = times_cons v y (put_in x ys) in
        let c : times v (x ∷ ys) ≡ cond (x == v) 1 0 + times v ys = times_cons v x ys in
        let d : times v (x ∷ y ∷ ys) ≡ cond (x == v) 1 0 + times v (y ∷ ys) = times_cons v x (y ∷ ys) in
        let e : times v (y ∷ ys) ≡ cond (y == v) 1 0 + times v ys = times_cons v y ys in
        omega (arith, a, b, c, d, e)

rising_rises : (xs : List ℕ) → Rises (rising xs)
rising_rises [] = tt
rising_rises (x ∷ xs) = put_rises x (rising xs) (rising_rises xs)

rising_times : (v : ℕ) (xs : List ℕ) → times v (rising xs) ≡ times v xs
rising_times v [] = refl
rising_times v (x ∷ xs) =
    put_times v x (rising xs) ∙ (times_cons v x (rising xs) ∙ (ap (λ n. cond (x == v) 1 0 + n) (rising_times v xs) ∙ sym (times_cons v x xs)))

-- numbers that do not fall rise
rises_of : (xs : List ℕ) → IsNonDecreasing xs → Rises xs
rises_of [] up = tt
rises_of (x ∷ xs) up = (λ k d lt. up 0 (suc k) d (omega arith) (omega (arith, lt)), rises_of xs (λ i j d le lt. up (suc i) (suc j) d (omega (arith, le)) (omega (arith, lt))))

pub sorted_is_rising : (xs ys : List ℕ) → IsPermutation xs ys → IsSorted nat_cmp ys → ys ≡ rising xs
sorted_is_rising xs ys moved sorted =
    one_rising ys (rising xs) (rises_of ys (IsNonDecreasingBy-from_sort (λ x. x) ys sorted)) (rising_rises xs)
    (λ v. sum_by-IsPermutation (λ x. cond (x == v) 1 0) xs ys moved ∙ sym (rising_times v xs))
