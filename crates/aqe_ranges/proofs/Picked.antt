-- Rows that are picked at even places, one by one.
use Rattle.std.proofs.Common.{◌≡◌, ℕ, ◌+◌, ◌-◌, ◌*◌, ◌/◌, ◌≤◌, ◌<◌, List, [], ◌∷◌, ◌++◌, map, length, get_or, refl, ap, sym, ◌∙◌, arith}
use Rattle.std.specs.Prelude.{min}
use Rattle.std.specs.Borrow.{Bor}
use Rattle.std.specs.List.{range_with_len}
use Rattle.std.proofs.lemmas.List.{length-map, get_or-map}
use Rattle.std.proofs.lemmas.List.FromFn.{map-range_with_len_more}
use Rattle.aqe_logical.specs.Answers.{Row}
use Rattle.aqe_places.specs.Samples.{sample_size, sample, bounds_of}
use Rattle.aqe_ranges.specs.Lent.{rows_seen}

-- the row at even place i of s, and those at n even places from place a on
abbrev pub pick : List Row → ℕ → ℕ → Row
pick rows s i = get_or rows (i * length rows / s) []

abbrev pub picked : ℕ → List Row → ℕ → ℕ → List Row
picked a rows s n = map (pick rows s) (range_with_len a n)

pub one_more : (a : ℕ) (rows : List Row) (s n i : ℕ) → a + n ≡ i → picked a rows s (n + 1) ≡ picked a rows s n ++ pick rows s i ∷ []
one_more a rows s n i at = map-range_with_len_more (pick rows s) a n i at

-- the key row of a row at an even place is the key row at this place
pub key_picked : (key : Row → Row) (rows : List Row) (s i place : ℕ) (row : Row) → place ≡ i * length rows / s → place < length rows
    → row ≡ get_or rows place row → key row ≡ pick (map key rows) s i
key_picked key rows s i place row at lt is =
    ap key is ∙ sym (get_or-map key rows place row [] lt)
    ∙ ap (λ p. get_or (map key rows) p []) (at ∙ ap (λ m. i * m / s) (sym (length-map rows key)))

pub key_more : (key : Row → Row) (rows : List Row) (s i place : ℕ) (row : Row) (made made' : List Row) → place ≡ i * length rows / s → place < length rows
    → row ≡ get_or rows place row → made ≡ picked 0 (map key rows) s i → made' ≡ made ++ key row ∷ [] → made' ≡ picked 0 (map key rows) s (i + 1)
key_more key rows s i place row made made' at lt is same put =
    put ∙ (λ j. same j ++ key_picked key rows s i place row at lt is j ∷ []) ∙ sym (one_more 0 (map key rows) s i i (omega arith))

pub keys_sampled : (key : Row → Row) (rows : List Row) (s : ℕ) (made : List Row) → s ≡ min sample_size (length rows) → made ≡ picked 0 (map key rows) s s
    → made ≡ sample (map key rows)
keys_sampled key rows s made size same =
    same ∙ ap (λ n. picked 0 (map key rows) n n) (size ∙ ap (λ m. min sample_size m) (sym (length-map rows key)))

-- the row that is lent at an even place
pub lent_picked : (lent : List (Bor Row)) (s i place : ℕ) (row : Bor Row) → place ≡ i * length lent / s → place < length lent
    → row ≡ get_or lent place row → row.now ≡ pick (rows_seen lent) s i
lent_picked lent s i place row at lt is =
    ap (λ r. r.now) is ∙ sym (get_or-map (λ r. r.now) lent place row [] lt)
    ∙ ap (λ p. get_or (rows_seen lent) p []) (at ∙ ap (λ m. i * m / s) (sym (length-map lent (λ r. r.now))))

pub bound_more : (lent : List (Bor Row)) (n i place : ℕ) (row : Bor Row) (made made' : List Row) → 1 ≤ i → place ≡ i * length lent / n → place < length lent
    → row ≡ get_or lent place row → made ≡ picked 1 (rows_seen lent) n (i - 1) → made' ≡ made ++ row.now ∷ [] → made' ≡ picked 1 (rows_seen lent) n (i + 1 - 1)
bound_more lent n i place row made made' le at lt is same put =
    let next : i - 1 + 1 ≡ i + 1 - 1 = omega (arith, le) in
    put ∙ (λ j. same j ++ lent_picked lent n i place row at lt is j ∷ [])
    ∙ sym (one_more 1 (rows_seen lent) n (i - 1) i (omega (arith, le))) ∙ ap (picked 1 (rows_seen lent) n) next

pub bounds_picked : (rows : List Row) (n : ℕ) → 0 < length rows → picked 1 rows n (n - 1) ≡ bounds_of n rows
bounds_picked [] n some = absurd (let no : ⊥ = omega (arith, some) in no)
bounds_picked (x ∷ xs) n some = refl
