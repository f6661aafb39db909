-- A search by halves in bounds that stand in order finds how many come strictly before a key row.
use Rattle.std.proofs.Common.{◌≡◌, ℕ, zero, suc, ◌≤◌, ◌<◌, Bool, true, false, cond, List, [], ◌∷◌, length, get_or, refl, ap, sym, ◌∙◌, arith}
use Rattle.std.specs.Prelude.{filter}
use Rattle.std.specs.Cmp.{IsStrictWeakOrder}
use Rattle.std.specs.List.Sorted.{IsSortedBy, IsPartitionedBy, IsPartitionPoint}
use Rattle.std.proofs.lemmas.List.MinMax.{ranks_by}
use Rattle.std.proofs.lemmas.List.Sorted.{sorted_far}
use Rattle.aqe_values.proofs.TotalOrders.{keys_total}
use Rattle.aqe_logical.specs.Answers.{Row}
use Rattle.aqe_logical.specs.Order.{ways_of}
use Rattle.aqe_logical.specs.declared.plan.SortKey.{SortKey}
use Rattle.aqe_ranges.specs.Order.{key_less}

pub rank : (keys : List SortKey) → IsStrictWeakOrder (key_less keys)
rank keys = ranks_by (keys_total (ways_of keys)) (λ (key : Row). key)

-- of bounds in order those in front come before a key row, where any does
pub parted : (keys : List SortKey) (bounds : List Row) (key : Row) → IsSortedBy (key_less keys) bounds → IsPartitionedBy (λ bound. key_less keys bound key) bounds
parted keys bounds key up i j d le lt later = by (key_less keys (get_or bounds i d) key) refl
  where
    by : (b : Bool) → key_less keys (get_or bounds i d) key ≡ b → b ≡ true
    by true e = refl
    by false e =
        let far = sorted_far (key_less keys) (rank keys) bounds up i j d le lt in
        let same : true ≡ false = sym later ∙ (rank keys).chain (get_or bounds j d) (get_or bounds i d) key far e in
        absurd (cc (same))

module _ (p : Row → Bool) where
  behind : (x : Row) (xs : List Row) (i : ℕ) → IsPartitionPoint (λ y. p y ≡ true) (λ y. p y ≡ false) (x ∷ xs) (suc i)
      → IsPartitionPoint (λ y. p y ≡ true) (λ y. p y ≡ false) xs i
  behind x xs i (front, back) = (λ k d a b. front (suc k) d (omega arith) (omega (arith, b)), λ k d a b. back (suc k) d (omega (arith, a)) (omega (arith, b)))

  none : (xs : List Row) → ((k : ℕ) (d : Row) → 0 ≤ k → k < length xs → p (get_or xs k d) ≡ false) → 0 ≡ length (filter p xs)
  none [] back = refl
  none (x ∷ xs) back =
      none xs (λ k d a b. back (suc k) d (omega arith) (omega (arith, b)))
      ∙ ap (λ b. length (cond b (x ∷ filter p xs) (filter p xs))) (sym (back 0 x (omega arith) (omega arith)))

  -- where all in front of a place pass a test, and none from it on, so many pass
  pub counted : (xs : List Row) (i : ℕ) → i ≤ length xs → IsPartitionPoint (λ y. p y ≡ true) (λ y. p y ≡ false) xs i → i ≡ length (filter p xs)
  counted xs zero le point = none xs point.1
  counted [] (suc i) le point = absurd (let no : ⊥ = omega (arith, le) in no)
  counted (x ∷ xs) (suc i) le point =
      ap suc (counted xs i (omega (arith, le)) (behind x xs i point))
      ∙ ap (λ b. length (cond b (x ∷ filter p xs) (filter p xs))) (sym (point.0 0 x (omega arith) (omega arith)))
