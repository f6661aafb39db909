-- The two ways to say that a list is in order.
use Rattle.std.proofs.Common.{◌≡◌, ◌+◌, ℕ, zero, suc, Bool, false, List, [], ◌∷◌, get_or, arith, subst}
use Rattle.std.proofs.lemmas.List.Elements.{All-get_or, All-from_get_or}
use Rattle.std.proofs.lemmas.List.MinMax.{ranks_by}
use Rattle.std.proofs.lemmas.List.Sorted.{sorted_far}
use Rattle.std.specs.Cmp.{IsStrictWeakOrder}
use Rattle.std.specs.List.Sorted.{IsSortedBy}
use Rattle.aqe_values.specs.declared.value.Value.{Value}
use Rattle.aqe_values.specs.KeyOrder.{InOrder, SortedIsInOrder, key_before}
use Rattle.aqe_values.proofs.TotalOrders.{keys_total}

sorted-tail : (less : List Value → List Value → Bool) (x : List Value) (xs : List (List Value)) → IsSortedBy less (x ∷ xs) → IsSortedBy less xs
sorted-tail less x xs up k d a b =
    let next : suc k + 1 ≡ suc (k + 1) = omega arith in
    let P : ℕ → Type 0 = λ n. less (get_or (x ∷ xs) n d) (get_or xs k d) ≡ false in
    subst P next (up (suc k) d (omega arith) (omega (arith, b)))

pub sorted-in_order : (less : List Value → List Value → Bool) → IsStrictWeakOrder less → (xs : List (List Value)) → IsSortedBy less xs → InOrder less xs
sorted-in_order less o [] up = tt
sorted-in_order less o (x ∷ xs) up = (
  All-from_get_or (λ y. less y x ≡ false) xs x (λ i lt. sorted_far less o (x ∷ xs) up 0 (suc i) x (omega arith) (omega (arith, lt))),
  sorted-in_order less o xs (sorted-tail less x xs up),
)

pub in_order-sorted : (less : List Value → List Value → Bool) (xs : List (List Value)) → InOrder less xs → IsSortedBy less xs
in_order-sorted less [] h k d a b = absurd (let no : ⊥ = omega (arith, b) in no)
in_order-sorted less (x ∷ xs) h zero d a b = All-get_or (λ y. less y x ≡ false) xs 0 d (omega (arith, b)) h.0
in_order-sorted less (x ∷ xs) h (suc k) d a b =
    let next : suc (k + 1) ≡ suc k + 1 = omega arith in
    let P : ℕ → Type 0 = λ n. less (get_or (x ∷ xs) n d) (get_or xs k d) ≡ false in
    subst P next (in_order-sorted less xs h.1 k d (omega arith) (omega (arith, b)))

pub sorted_is : SortedIsInOrder
sorted_is ways key rows =
    (sorted-in_order (key_before ways key) (ranks_by (keys_total ways) key) rows, in_order-sorted (key_before ways key) rows)
