-- Limits, sorts and unions of rows that stand in parts.
use Rattle.std.proofs.Common.{◌≡◌, ℕ, zero, suc, ◌+◌, ◌≤◌, Bool, true, false, List, [], ◌∷◌, ◌++◌, map, take, drop, length, refl, ap, sym, ◌∙◌, arith, append-nil, append_assoc, subst, rules}
use Rattle.std.specs.Prelude.{All, IsTrue, ◌↔◌}
use Rattle.std.specs.Cmp.Lexicographic.{pointwise}
use Rattle.std.proofs.lemmas.List.{drop-take}
use Rattle.std.proofs.lemmas.List.Elements.{All-nil}
use Rattle.aqe_values.specs.contracts.sort_way.SortWayPartialEq.TheImpl as way_eq
use Rattle.aqe_values.specs.declared.sort_way.SortWay.{SortWay}
use Rattle.aqe_laws.proofs.Same.{same_is_equal, first, second}
use Rattle.aqe_rules.specs.Equality.{same_expr}
use Rattle.aqe_logical.specs.declared.plan.Placement.{Placement}
use Rattle.aqe_logical.specs.declared.plan.Placement.TheVariants as place
use Rattle.aqe_logical.specs.declared.plan.SortKey.{SortKey}
use Rattle.aqe_logical.specs.Answers.{Row, at_most_rows}
use Rattle.aqe_logical.specs.Order.{before, key_of, ways_of}
use Rattle.aqe_partial.specs.PartialRows.{joined_parts}
use Rattle.aqe_places.specs.Sorting.{stable_sort}
use Rattle.aqe_places.specs.Places.{by_range, exchanged}
use Rattle.aqe_places.specs.Samples.{bounds}
use Rattle.aqe_places.specs.Laws.{PartsInOrder}
use Rattle.aqe_places.proofs.Ordered.{orders, key_rows_order}
use Rattle.aqe_places.proofs.Ranges.{sorted_parts_are, sampled_ranges_are}
use Rattle.aqe_stages.specs.Places.{key_less}
use Rattle.aqe_fitting.specs.Placing.{same_key, keeps_order}
use Rattle.aqe_fit_laws.specs.Standing.{Cut, Stands}
use Rattle.aqe_fit_laws.specs.Laws.{LimitsOfOnePart, LimitsOfPartsAreTheLimit, SortsOverAPlace, SortsOfMovedParts, UnionsOfParts}
use Rattle.aqe_fit_laws.proofs.Together.{flat_map_map}
use Rattle.aqe_fit_laws.proofs.Widths.{every}

-- what is done to the one part is done to all rows
pub of_one : (g : List Row → List Row) (ps : List (List Row)) → length ps ≡ 1 → joined_parts (map g ps) ≡ g (joined_parts ps)
of_one g [] e = absurd (let no : ⊥ = omega (arith, e) in no)
of_one g (part ∷ []) e = append-nil (g part) ∙ ap g (sym (append-nil part))
of_one g (part ∷ other ∷ more) e = absurd (let no : ⊥ = omega (arith, e) in no)

pub one_part_limited : LimitsOfOnePart
one_part_limited count skip ps e = of_one (λ part. at_most_rows count (drop skip part)) ps e

-- the first rows of a part and of what stands behind it
front : (m n : ℕ) (part ys zs : List Row) → m ≤ n → ((k : ℕ) → k ≤ n → take k ys ≡ take k zs) → take m (take n part ++ ys) ≡ take m (part ++ zs)
front zero n part ys zs le h = refl
front (suc m) zero part ys zs le h = absurd (let no : ⊥ = omega (arith, le) in no)
front (suc m) (suc n) [] ys zs le h = h (suc m) le
front (suc m) (suc n) (x ∷ xs) ys zs le h = ap (λ rows. x ∷ rows) (front m n xs ys zs (omega (arith, le)) (λ k lt. h k (omega (arith, lt))))

firsts : (n : ℕ) (ps : List (List Row)) (m : ℕ) → m ≤ n → take m (joined_parts (map (take n) ps)) ≡ take m (joined_parts ps)
firsts n [] m le = refl
firsts n (part ∷ ps) m le = front m n part (joined_parts (map (take n) ps)) (joined_parts ps) le (λ k lt. firsts n ps k lt)

pub limits_are : LimitsOfPartsAreTheLimit
limits_are count skip ps =
    sym (drop-take skip count (joined_parts (map (take (count + skip)) ps))) ∙
    (ap (drop skip) (firsts (count + skip) ps (skip + count) (omega arith)) ∙
    drop-take skip count (joined_parts ps))

-- sort keys that are told to be the same are the same
ways_same : (a b : SortWay) → IsTrue ((way_eq.ghosts).eq a b) ↔ (a ≡ b)
ways_same a b = search rules

key_is : (a b : SortKey) → same_key a b ≡ true → a ≡ b
key_is a b h =
    let e : a.expr ≡ b.expr = (same_is_equal a.expr b.expr).0 (first (same_expr a.expr b.expr) ((way_eq.ghosts).eq a.way b.way) h) in
    let w : a.way ≡ b.way = (ways_same a.way b.way).0 (second (same_expr a.expr b.expr) ((way_eq.ghosts).eq a.way b.way) h) in
    λ i. record { expr = e i; way = w i }

keys_are : (as_ bs : List SortKey) → pointwise same_key as_ bs ≡ true → as_ ≡ bs
keys_are [] [] h = refl
keys_are [] (b ∷ bs) h = absurd (cc)
keys_are (a ∷ as_) [] h = absurd (cc)
keys_are (a ∷ as_) (b ∷ bs) h = λ i. key_is a b (first (same_key a b) (pointwise same_key as_ bs) h) i ∷ keys_are as_ bs (second (same_key a b) (pointwise same_key as_ bs) h) i

one_in_order : (less : Row → Row → Bool) (ps : List (List Row)) → length ps ≡ 1 → PartsInOrder less ps
one_in_order less [] e = absurd (let no : ⊥ = omega (arith, e) in no)
one_in_order less (part ∷ []) e = (every (λ x. All (λ y. less y x ≡ false) []) (λ x. All-nil (λ y. less y x ≡ false)) part, tt)
one_in_order less (part ∷ other ∷ more) e = absurd (let no : ⊥ = omega (arith, e) in no)

in_order_at : (n : ℕ) (cut : Cut) (keys : List SortKey) (w : Placement) (ps : List (List Row)) → keeps_order keys w ≡ true → Stands n cut w ps → PartsInOrder (before keys) ps
in_order_at n cut keys place.Any ps h s = absurd (cc)
in_order_at n cut keys place.Single ps h s = one_in_order (before keys) ps s
in_order_at n cut keys (place.Hash others) ps h s = absurd (cc)
in_order_at n cut keys (place.Range others) ps h s = subst (λ (ks : List SortKey). PartsInOrder (before ks) ps) (keys_are others keys h) s.0
in_order_at n cut keys place.Broadcast ps h s = absurd (cc)

pub sorts_over : SortsOverAPlace
sorts_over n cut keys w ps h s =
    flat_map_map (λ (part : List Row). part) (stable_sort (before keys)) ps ∙ sorted_parts_are (before keys) (orders keys) ps (in_order_at n cut keys w ps h s)

pub sorts_moved : SortsOfMovedParts
sorts_moved n keys samples rows some =
    flat_map_map (λ (part : List Row). part) (stable_sort (before keys)) (exchanged (by_range (key_less keys) (bounds (key_less keys) n samples) (key_of keys)) n rows) ∙
    sampled_ranges_are (key_less keys) (key_rows_order (ways_of keys)) samples (key_of keys) n rows some

pub ends : UnionsOfParts
ends [] qs = refl
ends (part ∷ ps) qs = ap (λ rows. part ++ rows) (ends ps qs) ∙ sym (append_assoc part (joined_parts ps) (joined_parts qs))
