-- Exchanges keep their rows, and place them.
use Rattle.std.proofs.Common.{◌≡◌, ℕ, zero, suc, ◌+◌, ◌<◌, ◌≤◌, ◌==◌, Bool, true, false, cond, List, [], ◌∷◌, ◌++◌, map, length, refl, ap, sym, ◌∙◌, arith}
use Rattle.std.specs.Prelude.{filter, flat_map, All, ℤ, pos, negsuc, unsigned_abs}
use Rattle.std.specs.Int.{int_rem_euclid}
use Rattle.std.proofs.Math.Nat.{mod-lt}
use Rattle.std.specs.List.{range_with_len}
use Rattle.std.proofs.lemmas.Bool.Decides.{nat_tests}
use Rattle.std.proofs.lemmas.List.Elements.{All-nil, All-cons}
use Rattle.aqe_values.specs.Equality.{row_eq}
use Rattle.aqe_values.specs.Murmur.{row_hash, place_seed}
use Rattle.aqe_logical.specs.Answers.{Row}
use Rattle.aqe_logical.specs.Groups.{row_of}
use Rattle.aqe_logical.proofs.Rearranged.{total, total-filter, total-flat_map, times, bit, from_counts, permuted}
use Rattle.aqe_logical.proofs.Rows.{rows_same}
use Rattle.aqe_places.specs.Places.{part_of, exchanged}
use Rattle.aqe_places.specs.Laws.{ExchangesKeepTheRows, ExchangesPlaceTheRows, HashPlacesAreParts, RangePlacesAreParts, Placed}

flat_map_map : {X Y : Type 0} (f : X → List Y) (xs : List X) → flat_map (λ p. p) (map f xs) ≡ flat_map f xs
flat_map_map f [] = refl
flat_map_map f (x ∷ xs) = ap (λ ys. f x ++ ys) (flat_map_map f xs)

total_none : {X : Type 0} (xs : List X) → total (λ x. 0) xs ≡ 0
total_none [] = refl
total_none (x ∷ xs) = let h = total_none xs in omega (arith, h)

total_add : {X : Type 0} (f g : X → ℕ) (xs : List X) → total (λ x. f x + g x) xs ≡ total f xs + total g xs
total_add f g [] = refl
total_add f g (x ∷ xs) = let h = total_add f g xs in omega (arith, h)

-- sums over two lists, in either order
total_turned : {X Y : Type 0} (f : X → Y → ℕ) (xs : List X) (ys : List Y) → total (λ y. total (λ x. f x y) xs) ys ≡ total (λ x. total (λ y. f x y) ys) xs
total_turned f [] ys = total_none ys
total_turned f (x ∷ xs) ys = total_add (λ y. f x y) (λ y. total (λ z. f z y) xs) ys ∙ ap (λ n. total (λ y. f x y) ys + n) (total_turned f xs ys)

-- one place of a range of numbers is a given one, where it is within the range
before_range : (p c a n : ℕ) → p < a → total (λ r. cond (p == r) c 0) (range_with_len a n) ≡ 0
before_range p c a zero lt = refl
before_range p c a (suc n) lt =
    let here : cond (p == a) c 0 ≡ 0 = grind (arith, nat_tests, lt) in
    let later = before_range p c (a + 1) n (omega (arith, lt)) in
    omega (arith, here, later)

within_range : (p c a n : ℕ) → a ≤ p → p < a + n → total (λ r. cond (p == r) c 0) (range_with_len a n) ≡ c
within_range p c a zero le lt = absurd (let no : ⊥ = omega (arith, le, lt) in no)
within_range p c a (suc n) le lt = by (p == a) refl (λ other. within_range p c (a + 1) n (omega (arith, other)) (omega (arith, lt)))
  where
    by : (b : Bool) → (p == a) ≡ b → (a < p → total (λ r. cond (p == r) c 0) (range_with_len (a + 1) n) ≡ c) → total (λ r. cond (p == r) c 0) (a ∷ range_with_len (a + 1) n) ≡ c
    by true e rest =
        let same : p ≡ a = grind (arith, nat_tests, e) in
        let here : cond (p == a) c 0 ≡ c = ap (λ t. cond t c 0) e in
        let later = before_range p c (a + 1) n (omega (arith, same)) in
        omega (arith, here, later)
    by false e rest =
        let other : a < p = grind (arith, nat_tests, e, le) in
        let here : cond (p == a) c 0 ≡ 0 = ap (λ t. cond t c 0) e in
        let later = rest other in
        omega (arith, here, later)

pub keep_the_rows : ExchangesKeepTheRows
keep_the_rows place n rows h = permuted rows (flat_map (λ part. part) (exchanged place n rows)) (from_counts row_eq rows_same rows (flat_map (λ part. part) (exchanged place n rows)) (λ k. sym (counted k)))
  where
    counted : (k : Row) → times row_eq k (flat_map (λ part. part) (exchanged place n rows)) ≡ times row_eq k rows
    counted k =
        ap (times row_eq k) (flat_map_map (part_of place rows) (range_with_len 0 n)) ∙
        (total-flat_map (λ x. bit (row_eq k x)) (part_of place rows) (range_with_len 0 n) ∙
        ((λ i. total (λ r. total-filter (λ x. bit (row_eq k x)) (λ row. place row == r) rows i) (range_with_len 0 n)) ∙
        (total_turned (λ x r. cond (place x == r) (bit (row_eq k x)) 0) rows (range_with_len 0 n) ∙
        (λ i. total (λ x. within_range (place x) (bit (row_eq k x)) 0 n (omega arith) (omega (arith, h x)) i) rows))))

pub all_at : (place : Row → ℕ) (a : ℕ) (rows : List Row) → All (λ row. place row ≡ a) (part_of place rows a)
all_at place a [] = All-nil (λ row. place row ≡ a)
all_at place a (x ∷ xs) = by (place x == a) refl (all_at place a xs)
  where
    by : (b : Bool) → (place x == a) ≡ b → All (λ row. place row ≡ a) (part_of place xs a) → All (λ row. place row ≡ a) (cond b (x ∷ part_of place xs a) (part_of place xs a))
    by true e rest = let same : place x ≡ a = grind (arith, nat_tests, e) in All-cons (λ row. place row ≡ a) x (part_of place xs a) same rest
    by false e rest = rest

placed_from : (place : Row → ℕ) (rows : List Row) (a n : ℕ) → Placed place a (map (part_of place rows) (range_with_len a n))
placed_from place rows a zero = tt
placed_from place rows a (suc n) = (all_at place a rows, placed_from place rows (a + 1) n)

pub place_the_rows : ExchangesPlaceTheRows
place_the_rows place n rows = placed_from place rows 0 n

no_more : {X : Type 0} (p : X → Bool) (xs : List X) → length (filter p xs) ≤ length xs
no_more p [] = omega arith
no_more p (x ∷ xs) = by (p x) (no_more p xs)
  where
    by : (b : Bool) → length (filter p xs) ≤ length xs → length (cond b (x ∷ filter p xs) (filter p xs)) ≤ suc (length xs)
    by true h = omega (arith, h)
    by false h = omega (arith, h)

pub are_parts : RangePlacesAreParts
are_parts less bounds key n row few = omega (arith, few, no_more (λ bound. less bound (key row)) bounds)

rem_below : (z : ℤ) (n : ℕ) → 1 ≤ n → unsigned_abs (int_rem_euclid z (pos n)) < n
rem_below (pos a) n le = mod-lt a le
rem_below (negsuc a) n le = omega (arith, le)

pub are_hash_parts : HashPlacesAreParts
are_hash_parts n keys row le = rem_below (row_hash (row_of keys row) place_seed) n le
