-- Pairs of a key row and its row, sorted by their key rows, have the rows sorted.
use Rattle.std.proofs.Common.{◌≡◌, ◌+◌, ℕ, Bool, true, false, cond, List, [], ◌∷◌, map, refl, ap, sym, ◌∙◌, subst, arith}
use Rattle.std.specs.Prelude.{filter, All, IsPermutation}
use Rattle.std.specs.Cmp.{IsStrictWeakOrder}
use Rattle.std.specs.Ordering.{is_lt}
use Rattle.std.specs.List.Sorted.{IsSortedBy, IsStableBy, ties}
use Rattle.std.proofs.Math.ListN.{get_or-map}
use Rattle.std.proofs.lemmas.List.{length-map}
use Rattle.std.proofs.lemmas.List.Elements.{All-nil, All-cons, All-head, All-tail}
use Rattle.std.proofs.lemmas.List.MinMax.{ranks_by}
use Rattle.std.proofs.lemmas.List.Sorted.{All-permutation}
use Rattle.aqe_values.specs.KeyOrder.{key_order}
use Rattle.aqe_values.proofs.TotalOrders.{keys_total}
use Rattle.aqe_logical.specs.Answers.{Row}
use Rattle.aqe_logical.specs.Order.{ways_of, before}
use Rattle.aqe_logical.specs.declared.plan.SortKey.{SortKey}
use Rattle.aqe_places.specs.Sorting.{stable_sort}
use Rattle.aqe_places.proofs.OneOrder.{sorted_is}
use Rattle.aqe_places.proofs.Ordered.{orders}
use Rattle.aqe_sorting.specs.declared.sorting.Keyed.{Keyed}
use Rattle.aqe_sorting.specs.Pairs.{keyed, rows_in}

-- whether a pair comes strictly before another: by the key rows alone
abbrev pub pair_before : List SortKey → Keyed → Keyed → Bool
pair_before keys p q = is_lt (key_order (ways_of keys) p.key q.key)

pub pairs_rank : (keys : List SortKey) → IsStrictWeakOrder (pair_before keys)
pairs_rank keys = ranks_by (keys_total (ways_of keys)) (λ (p : Keyed). p.key)

-- a pair has the key row of its row
abbrev HasItsKey : List SortKey → Keyed → Type 0
HasItsKey keys p = p ≡ keyed keys p.row

module _ (keys : List SortKey) where
  all_made : (rows : List Row) → All (HasItsKey keys) (map (keyed keys) rows)
  all_made [] = All-nil (HasItsKey keys)
  all_made (x ∷ xs) = All-cons (HasItsKey keys) (keyed keys x) (map (keyed keys) xs) refl (all_made xs)

  made_of_rows : (pairs : List Keyed) → All (HasItsKey keys) pairs → pairs ≡ map (keyed keys) (rows_in pairs)
  made_of_rows [] h = refl
  made_of_rows (p ∷ ps) h = λ i. All-head (HasItsKey keys) p ps h i ∷ made_of_rows ps (All-tail (HasItsKey keys) p ps h) i

  -- a test of pairs picks the rows that it would pick by their pairs
  picked : (test : Keyed → Bool) (rows : List Row) → rows_in (filter test (map (keyed keys) rows)) ≡ filter (λ x. test (keyed keys x)) rows
  picked test [] = refl
  picked test (x ∷ xs) = by (test (keyed keys x)) (picked test xs)
    where
      pairs : List Keyed
      pairs = filter test (map (keyed keys) xs)

      rows : List Row
      rows = filter (λ y. test (keyed keys y)) xs

      by : (b : Bool) → rows_in pairs ≡ rows → rows_in (cond b (keyed keys x ∷ pairs) pairs) ≡ cond b (x ∷ rows) rows
      by true h = ap (λ zs. x ∷ zs) h
      by false h = h

  rows_rise : (rows : List Row) → IsSortedBy (pair_before keys) (map (keyed keys) rows) → IsSortedBy (before keys) rows
  rows_rise rows up k d low high =
      let so_many = length-map rows (keyed keys) in
      let at = λ (i : ℕ). get_or-map (keyed keys) rows i d in
      sym (λ i. pair_before keys (at (k + 1) i) (at k i)) ∙ up k (keyed keys d) low (omega (arith, high, so_many))

  rows_stay : (rows sorted : List Row) → IsStableBy (pair_before keys) (map (keyed keys) rows) (map (keyed keys) sorted)
      → IsStableBy (before keys) rows sorted
  rows_stay rows sorted stay x =
      let test = ties (pair_before keys) (keyed keys x) in
      sym (picked test sorted) ∙ (ap rows_in (stay (keyed keys x)) ∙ picked test rows)

  pub rows_sorted : (rows : List Row) (came after : List Keyed) → came ≡ map (keyed keys) rows → IsPermutation came after
      → IsSortedBy (pair_before keys) after → IsStableBy (pair_before keys) came after → rows_in after ≡ stable_sort (before keys) rows
  rows_sorted rows came after made moved up stay =
      let keep = All-permutation (HasItsKey keys) came after moved (subst (All (HasItsKey keys)) (sym made) (all_made rows)) in
      let still = made_of_rows after keep in
      let stay' : IsStableBy (pair_before keys) (map (keyed keys) rows) after = subst (λ ps. IsStableBy (pair_before keys) ps after) made stay in
      sorted_is (before keys) (orders keys) rows (rows_in after)
      (rows_rise (rows_in after) (subst (IsSortedBy (pair_before keys)) still up))
      (rows_stay rows (rows_in after) (subst (IsStableBy (pair_before keys) (map (keyed keys) rows)) still stay'))
