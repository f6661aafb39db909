-- Bounds are few, and in order.
use Rattle.std.proofs.Common.{◌≡◌, ℕ, zero, suc, ◌+◌, ◌*◌, ◌-◌, ◌/◌, ◌<◌, ◌≤◌, ◌==◌, Bool, false, List, [], ◌∷◌, map, length, refl, ap, subst, arith}
use Rattle.std.specs.Prelude.{min, Contains, filter, All, slice_index_or}
use Rattle.std.specs.List.{range_with_len}
use Rattle.std.proofs.Math.Nat.{div-lt_iff_lt-mul, le-div_iff_mul-le, div-mul-le_self, mul-lt-mul_of_pos_right, mul-le-mul_right, mul_comm}
use Rattle.std.proofs.lemmas.List.Elements.{Contains-get_or, All-weaker, All-nil, All-cons}
use Rattle.std.proofs.lemmas.List.FromFn.{length-map-range_with_len}
use Rattle.aqe_values.specs.KeyOrder.{InOrder}
use Rattle.aqe_values.proofs.Sortedness.{in_order-sorted}
use Rattle.std.proofs.lemmas.List.Sorted.{sorted_far, Contains-permutation, IsPermutation-sym}
use Rattle.aqe_places.proofs.Sorted.{order, keep}
use Rattle.aqe_places.proofs.OneOrder.{weak}
use Rattle.aqe_logical.specs.Answers.{Row}
use Rattle.aqe_places.specs.Places.{single}
use Rattle.aqe_places.specs.Sorting.{stable_sort}
use Rattle.aqe_places.specs.Samples.{sample_size, evenly, bounds, bounds_of}
use Rattle.aqe_places.specs.Laws.{IsOrder, OnePartHasTheRows, BoundsAreFewer, BoundsAreInOrder, SamplesAreKeys, BoundsAreSamples}

all_rows : (rows : List Row) → filter (λ row. single row == 0) rows ≡ rows
all_rows [] = refl
all_rows (x ∷ xs) = ap (λ zs. x ∷ zs) (all_rows xs)

pub one_part : OnePartHasTheRows
one_part rows = ap (λ part. part ∷ []) (all_rows rows)

few : (n : ℕ) (samples : List Row) → 1 ≤ n → length (bounds_of n samples) < n
few n [] le = omega (arith, le)
few n (sample ∷ samples) le =
    let so_many = length-map-range_with_len (λ i. slice_index_or (sample ∷ samples) (i * length (sample ∷ samples) / n) []) 1 (n - 1) in
    omega (arith, le, so_many)

pub fewer : BoundsAreFewer
fewer less n samples le = few n (stable_sort less samples) le

-- numbers that do not fall read from a list in order rows that are in order
abbrev read : List Row → (ℕ → ℕ) → ℕ → Row
read rows at i = slice_index_or rows (at i) []

module _ (less : Row → Row → Bool) (o : IsOrder less) (rows : List Row) (h : InOrder less rows) (at : ℕ → ℕ) (up : (i j : ℕ) → i ≤ j → at i ≤ at j) where
  below : (i a n : ℕ) → i ≤ a → ((j : ℕ) → j < a + n → at j < length rows) → All (λ y. less y (read rows at i) ≡ false) (map (read rows at) (range_with_len a n))
  below i a zero le inside = All-nil (λ y. less y (read rows at i) ≡ false)
  below i a (suc n) le inside = All-cons (λ y. less y (read rows at i) ≡ false) (read rows at a) (map (read rows at) (range_with_len (a + 1) n))
      (sorted_far less (weak less o) rows (in_order-sorted less rows h) (at i) (at a) [] (up i a le) (inside a (omega arith)))
      (below i (a + 1) n (omega (arith, le)) (λ j lt. inside j (omega (arith, lt))))

  in_order_from : (a n : ℕ) → ((j : ℕ) → j < a + n → at j < length rows) → InOrder less (map (read rows at) (range_with_len a n))
  in_order_from a zero inside = tt
  in_order_from a (suc n) inside = (below a (a + 1) n (omega arith) (λ j lt. inside j (omega (arith, lt))), in_order_from (a + 1) n (λ j lt. inside j (omega (arith, lt))))

-- place i * k / n, for i below n, is below k; and such places do not fall
between : (n k i : ℕ) → i < n → 1 ≤ n → 1 ≤ k → i * k / n < k
between n k i lt le some = (div-lt_iff_lt-mul le).1 (subst (λ (m : ℕ). i * k < m) (mul_comm n k) (mul-lt-mul_of_pos_right lt some))

risen : (n k i j : ℕ) → 1 ≤ n → i ≤ j → i * k / n ≤ j * k / n
risen n k i j le up =
    let under = div-mul-le_self (i * k) n in
    let over = mul-le-mul_right k up in
    (le-div_iff_mul-le le).1 (omega (arith, under, over))

bounds_in_order : (less : Row → Row → Bool) → IsOrder less → (n : ℕ) (rows : List Row) → InOrder less rows → InOrder less (bounds_of n rows)
bounds_in_order less o n [] h = tt
bounds_in_order less o zero (row ∷ rows) h = tt
bounds_in_order less o (suc n) (row ∷ rows) h =
    let k = suc (length rows) in
    in_order_from less o (row ∷ rows) h (λ i. i * k / suc n) (λ i j. risen (suc n) k i j (omega arith)) 1 (suc n - 1) (λ j lt. between (suc n) k j (omega (arith, lt)) (omega arith) (omega arith))

pub in_order : BoundsAreInOrder
in_order less o n samples =
    let h = bounds_in_order less o n (stable_sort less samples) (order less o samples) in
    (h, in_order-sorted less (bounds less n samples) h)

-- what is read within a list stands in it
within : (rows : List Row) (at : ℕ → ℕ) (a n : ℕ) → ((j : ℕ) → j < a + n → at j < length rows) → All (λ row. Contains rows row) (map (read rows at) (range_with_len a n))
within rows at a zero inside = All-nil (λ row. Contains rows row)
within rows at a (suc n) inside = All-cons (λ row. Contains rows row) (read rows at a) (map (read rows at) (range_with_len (a + 1) n))
    (Contains-get_or rows (at a) [] (inside a (omega arith))) (within rows at (a + 1) n (λ j lt. inside j (omega (arith, lt))))

evenly_within : (keys : List Row) (s : ℕ) → s ≤ length keys → All (λ key. Contains keys key) (evenly s keys)
evenly_within keys s le = within keys (λ i. i * length keys / s) 0 s (λ j lt. between s (length keys) j (omega (arith, lt)) (omega (arith, lt)) (omega (arith, lt, le)))

pub are_keys : SamplesAreKeys
are_keys keys = (
  length-map-range_with_len (λ i. slice_index_or keys (i * length keys / min sample_size (length keys)) []) 0 (min sample_size (length keys)),
  evenly_within keys (min sample_size (length keys)) (omega arith),
)

bounds_within : (n : ℕ) (rows : List Row) → All (λ bound. Contains rows bound) (bounds_of n rows)
bounds_within n [] = All-nil (λ bound. Contains {X = Row} [] bound)
bounds_within zero (row ∷ rows) = All-nil (λ bound. Contains (row ∷ rows) bound)
bounds_within (suc n) (row ∷ rows) =
    let k = suc (length rows) in
    within (row ∷ rows) (λ i. i * k / suc n) 1 (suc n - 1) (λ j lt. between (suc n) k j (omega (arith, lt)) (omega arith) (omega arith))

pub are_samples : BoundsAreSamples
are_samples less n samples =
    let sorted = stable_sort less samples in
    All-weaker (λ bound. Contains sorted bound) (λ bound. Contains samples bound)
    (λ bound. Contains-permutation sorted samples bound (IsPermutation-sym samples sorted (keep less samples))) (bounds_of n sorted) (bounds_within n sorted)
