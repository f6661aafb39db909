-- References to key rows, sorted by the rows, have the rows in order.
use Rattle.std.proofs.Common.{◌≡◌, ◌+◌, ◌<◌, ◌≤◌, ℕ, Bool, true, false, cond, List, [], ◌∷◌, length, refl, ap, sym, ◌∙◌, subst, arith}
use Rattle.std.specs.Prelude.{filter}
use Rattle.std.specs.Borrow.{Bor}
use Rattle.std.specs.Cmp.{IsStrictWeakOrder}
use Rattle.std.specs.List.Sorted.{IsSortedBy, IsStableBy, ties}
use Rattle.std.proofs.lemmas.List.{length-map, get_or-map}
use Rattle.std.proofs.lemmas.List.MinMax.{ranks_by}
use Rattle.aqe_values.proofs.TotalOrders.{keys_total}
use Rattle.aqe_logical.specs.Answers.{Row}
use Rattle.aqe_logical.specs.Order.{ways_of}
use Rattle.aqe_logical.specs.declared.plan.SortKey.{SortKey}
use Rattle.aqe_places.specs.Samples.{bounds, bounds_of}
use Rattle.aqe_places.specs.Sorting.{stable_sort}
use Rattle.aqe_places.proofs.Bounds.{fewer, in_order}
use Rattle.aqe_places.proofs.OneOrder.{sorted_is}
use Rattle.aqe_places.proofs.Ordered.{key_rows_order}
use Rattle.aqe_ranges.specs.Lent.{rows_seen}
use Rattle.aqe_ranges.specs.Order.{key_less}

-- whether what one reference shows comes strictly before what another does
abbrev pub seen_before : List SortKey → Bor Row → Bor Row → Bool
seen_before keys a b = key_less keys a.now b.now

pub seen_rank : (keys : List SortKey) → IsStrictWeakOrder (seen_before keys)
seen_rank keys = ranks_by (keys_total (ways_of keys)) (λ (row : Bor Row). row.now)

-- some reference to a row
abbrev seen : Row → Bor Row
seen row = record { ref_ptr = (0, 0); now = row }

module _ (keys : List SortKey) where
  picked : (test : Row → Bool) (lent : List (Bor Row)) → rows_seen (filter (λ row. test row.now) lent) ≡ filter test (rows_seen lent)
  picked test [] = refl
  picked test (x ∷ xs) = by (test x.now) (picked test xs)
    where
      lent : List (Bor Row)
      lent = filter (λ row. test row.now) xs

      rows : List Row
      rows = filter test (rows_seen xs)

      by : (b : Bool) → rows_seen lent ≡ rows → rows_seen (cond b (x ∷ lent) lent) ≡ cond b (x.now ∷ rows) rows
      by true h = ap (λ zs. x.now ∷ zs) h
      by false h = h

  rows_rise : (lent : List (Bor Row)) → IsSortedBy (seen_before keys) lent → IsSortedBy (key_less keys) (rows_seen lent)
  rows_rise lent up k d low high =
      let so_many = length-map lent (λ row. row.now) in
      let at = λ (i : ℕ) (lt : i < length lent). get_or-map (λ (row : Bor Row). row.now) lent i (seen d) d lt in
      (λ i. key_less keys (at (k + 1) (omega (arith, high, so_many)) i) (at k (omega (arith, high, so_many)) i)) ∙ up k (seen d) low (omega (arith, high, so_many))

  rows_stay : (came after : List (Bor Row)) → IsStableBy (seen_before keys) came after → IsStableBy (key_less keys) (rows_seen came) (rows_seen after)
  rows_stay came after stay x =
      let test = ties (key_less keys) x in
      sym (picked test after) ∙ (ap rows_seen (stay (seen x)) ∙ picked test came)

  pub lent_sorted : (rows : List Row) (came after : List (Bor Row)) → rows_seen came ≡ rows
      → IsSortedBy (seen_before keys) after → IsStableBy (seen_before keys) came after → rows_seen after ≡ stable_sort (key_less keys) rows
  lent_sorted rows came after same up stay =
      sorted_is (key_less keys) (key_rows_order (ways_of keys)) (rows_seen came) (rows_seen after) (rows_rise after up) (rows_stay came after stay)
      ∙ ap (stable_sort (key_less keys)) same

-- bounds among samples in order are few, and in order themselves
module _ (keys : List SortKey) (n : ℕ) (rows : List Row) (lent : List (Bor Row)) (sorted : rows_seen lent ≡ stable_sort (key_less keys) rows) where
  bounds_are : (made : List Row) → made ≡ bounds_of n (rows_seen lent) → made ≡ bounds (key_less keys) n rows
  bounds_are made same = same ∙ ap (bounds_of n) sorted

  pub bounds_few : 1 ≤ n → (made : List Row) → made ≡ bounds_of n (rows_seen lent) → length made < n
  bounds_few le made same = subst (λ (zs : List Row). length zs < n) (sym (bounds_are made same)) (fewer (key_less keys) n rows le)

  pub bounds_rise : (made : List Row) → made ≡ bounds_of n (rows_seen lent) → IsSortedBy (key_less keys) made
  bounds_rise made same =
      subst (IsSortedBy (key_less keys)) (sym (bounds_are made same)) (in_order (key_less keys) (key_rows_order (ways_of keys)) n rows).1
