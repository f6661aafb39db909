-- Groups of rows in another order.
use Rattle.std.proofs.Common.{◌≡◌, ℕ, zero, suc, ◌+◌, Bool, true, false, not, cond, ◌||◌, List, [], ◌∷◌, ◌++◌, map, refl, sym, ap, ◌∙◌, arith}
use Rattle.std.specs.Prelude.{filter, IsPermutation}
use Rattle.std.specs.List.{list_any}
use Rattle.std.proofs.lemmas.List.Sorted.{IsPermutation-refl, IsPermutation-map, list_any-IsPermutation}
use Rattle.aqe_values.specs.Equality.{row_eq}
use Rattle.aqe_expr.specs.Meaning.{val}
use Rattle.aqe_logical.specs.declared.plan.AggCall.{AggCall}
use Rattle.aqe_logical.specs.Answers.{Row}
use Rattle.aqe_logical.specs.Groups.{distinct, group_keys, group_rows, rows_with, call_value}
use Rattle.aqe_logical.proofs.Rearranged.{times, total, total-filter, permuted, from_counts, filter-permuted, bit}
use Rattle.aqe_logical.proofs.Rows.{rows_same}
use Rattle.aqe_logical.proofs.Calls.{folded-permuted}

row_itself : (k : Row) → row_eq k k ≡ true
row_itself k = (rows_same k k).1 refl

row_turned : (a b : Row) → row_eq a b ≡ row_eq b a
row_turned a b = by (row_eq a b) (row_eq b a) refl refl
  where
    by : (s t : Bool) → row_eq a b ≡ s → row_eq b a ≡ t → s ≡ t
    by true true h k = refl
    by false false h k = refl
    by true false h k = sym ((rows_same b a).1 (sym ((rows_same a b).0 h))) ∙ k
    by false true h k = sym h ∙ (rows_same a b).1 (sym ((rows_same b a).0 k))

-- of keys without repeats each stands once, or not at all
bit_or : (a b : Bool) → bit (a || b) ≡ cond a 1 (bit b)
bit_or true b = refl
bit_or false b = refl

times_filtered : (k j : Row) (ks : List Row) → times row_eq k (filter (λ i. not (row_eq j i)) ks) ≡ cond (row_eq j k) 0 (times row_eq k ks)
times_filtered k j ks = total-filter (λ x. bit (row_eq k x)) (λ i. not (row_eq j i)) ks ∙ left ks
  where
    term : (i : Row) (b c : Bool) → row_eq k i ≡ b → row_eq j k ≡ c → cond (not (row_eq j i)) (bit (row_eq k i)) 0 ≡ cond c 0 (bit b)
    term i true true h e = (λ l. cond (not (((rows_same j i).1 ((rows_same j k).0 e ∙ (rows_same k i).0 h)) l)) (bit (row_eq k i)) 0)
    term i false true h e = by (not (row_eq j i))
      where
        by : (t : Bool) → cond t (bit (row_eq k i)) 0 ≡ 0
        by true = ap bit h
        by false = refl
    term i b false h e = by (row_eq j i) refl
      where
        by : (t : Bool) → row_eq j i ≡ t → cond (not t) (bit (row_eq k i)) 0 ≡ bit b
        by false g = ap bit h
        by true g = none b h
          where
            none : (c : Bool) → row_eq k i ≡ c → 0 ≡ bit c
            none false f = refl
            none true f = absurd (let up : true ≡ false = sym ((rows_same j k).1 ((rows_same j i).0 g ∙ sym ((rows_same k i).0 f))) ∙ e in cc)

    left : (xs : List Row) → total (λ x. cond (not (row_eq j x)) (bit (row_eq k x)) 0) xs ≡ cond (row_eq j k) 0 (times row_eq k xs)
    left [] = by (row_eq j k)
      where
        by : (t : Bool) → ◌≡◌ {A = ℕ} 0 (cond t 0 0)
        by true = refl
        by false = refl
    left (x ∷ xs) = by (row_eq j k) refl (left xs)
      where
        by : (t : Bool) → row_eq j k ≡ t → total (λ y. cond (not (row_eq j y)) (bit (row_eq k y)) 0) xs ≡ cond t 0 (times row_eq k xs) → cond (not (row_eq j x)) (bit (row_eq k x)) 0 + total (λ y. cond (not (row_eq j y)) (bit (row_eq k y)) 0) xs ≡ cond t 0 (bit (row_eq k x) + times row_eq k xs)
        by true e h = let here : cond (not (row_eq j x)) (bit (row_eq k x)) 0 ≡ 0 = term x (row_eq k x) true refl e in omega (arith, h, here)
        by false e h = let here : cond (not (row_eq j x)) (bit (row_eq k x)) 0 ≡ bit (row_eq k x) = term x (row_eq k x) false refl e in omega (arith, h, here)

times_distinct : (k : Row) (ks : List Row) → times row_eq k (distinct ks) ≡ bit (list_any (row_eq k) ks)
times_distinct k [] = refl
times_distinct k (j ∷ ks) = by (row_eq k j) refl (times_distinct k ks)
  where
    by : (t : Bool) → row_eq k j ≡ t → times row_eq k (distinct ks) ≡ bit (list_any (row_eq k) ks) → bit (row_eq k j) + times row_eq k (filter (λ i. not (row_eq j i)) (distinct ks)) ≡ bit (row_eq k j || list_any (row_eq k) ks)
    by true e h =
        let rest : times row_eq k (filter (λ i. not (row_eq j i)) (distinct ks)) ≡ 0 = times_filtered k j (distinct ks) ∙ ap (λ b. cond b 0 (times row_eq k (distinct ks))) (row_turned j k ∙ e) in
        let here : bit (row_eq k j) ≡ 1 = ap bit e in
        let whole : bit (row_eq k j || list_any (row_eq k) ks) ≡ 1 = bit_or (row_eq k j) (list_any (row_eq k) ks) ∙ ap (λ b. cond b 1 (bit (list_any (row_eq k) ks))) e in
        omega (arith, rest, here, whole)
    by false e h =
        let rest : times row_eq k (filter (λ i. not (row_eq j i)) (distinct ks)) ≡ times row_eq k (distinct ks) = times_filtered k j (distinct ks) ∙ ap (λ b. cond b 0 (times row_eq k (distinct ks))) (row_turned j k ∙ e) in
        let here : bit (row_eq k j) ≡ 0 = ap bit e in
        let whole : bit (row_eq k j || list_any (row_eq k) ks) ≡ bit (list_any (row_eq k) ks) = bit_or (row_eq k j) (list_any (row_eq k) ks) ∙ ap (λ b. cond b 1 (bit (list_any (row_eq k) ks))) e in
        omega (arith, rest, here, whole, h)

distinct-permuted : (ks js : List Row) → IsPermutation ks js → IsPermutation (distinct ks) (distinct js)
distinct-permuted ks js h =
    permuted (distinct ks) (distinct js)
    (from_counts row_eq rows_same (distinct ks) (distinct js) (λ k.
    times_distinct k ks ∙ (ap bit (list_any-IsPermutation (row_eq k) ks js h) ∙ sym (times_distinct k js))))

group_keys-permuted : (n : ℕ) (ks js : List Row) → IsPermutation ks js → IsPermutation (group_keys n ks) (group_keys n js)
group_keys-permuted zero ks js h = IsPermutation-refl ([] ∷ [])
group_keys-permuted (suc n) ks js h = distinct-permuted ks js h

call_value-permuted : (rows others : List Row) → IsPermutation rows others → (call : AggCall) → call_value rows call ≡ call_value others call
call_value-permuted rows others h call =
    folded-permuted call.fun (map (λ row. val row call.arg) rows) (map (λ row. val row call.arg) others)
    (IsPermutation-map (λ row. val row call.arg) rows others h)

pub group_rows-permuted : (n : ℕ) (key : Row → Row) (calls : List AggCall) (rows others : List Row) → IsPermutation rows others → IsPermutation (group_rows n key calls rows) (group_rows n key calls others)
group_rows-permuted n key calls rows others h =
    rw group_rows_same
    (IsPermutation-map (λ k. k ++ map (call_value (rows_with key k others)) calls) (group_keys n (map key rows)) (group_keys n (map key others))
    (group_keys-permuted n (map key rows) (map key others) (IsPermutation-map key rows others h)))
  where
    group_rows_same : group_rows n key calls rows ≡ map (λ k. k ++ map (call_value (rows_with key k others)) calls) (group_keys n (map key rows))
    group_rows_same = λ i. map (λ k. k ++ map (λ call. call_value-permuted (rows_with key k rows) (rows_with key k others) (filter-permuted row_eq rows_same (λ row. row_eq k (key row)) rows others h) call i) calls) (group_keys n (map key rows))
