-- The parts of the rows that were placed so far, when one more row is placed.
use Rattle.std.proofs.Common.{◌≡◌, ℕ, zero, suc, ◌+◌, ◌<◌, ◌≤◌, ◌==◌, true, false, cond, List, replicate, [], ◌∷◌, ◌++◌, map, length, take, get_or, slice_set, refl, ap, sym, ◌∙◌, arith}
use Rattle.std.specs.List.{range_with_len}
use Rattle.std.proofs.lemmas.Bool.Decides.{nat_tests}
use Rattle.std.proofs.lemmas.List.{append-nil, take_more}
use Rattle.std.proofs.lemmas.List.Elements.{filter-append}
use Rattle.std.proofs.lemmas.List.FromFn.{get_or-map-range_with_len, length-map-range_with_len}
use Rattle.aqe_blocks.specs.Cells.{CellData}
use Rattle.aqe_expr.specs.declared.expr.Expr.{Expr}
use Rattle.aqe_logical.specs.Answers.{Row}
use Rattle.aqe_places.specs.Places.{by_hash, part_of, exchanged}
use Rattle.aqe_places.proofs.Exchanged.{are_hash_parts}
use Rattle.aqe_exchange.specs.Parts.{with_row}

none_from : (place : Row → ℕ) (a n : ℕ) → replicate n [] ≡ map (part_of place []) (range_with_len a n)
none_from place a zero = refl
none_from place a (suc n) = ap (λ cells. [] ∷ cells) (none_from place (a + 1) n)

-- no row stands in any part yet
pub none_yet : (place : Row → ℕ) (n : ℕ) → replicate n [] ≡ exchanged place n []
none_yet place n = none_from place 0 n

-- one cell without rows more
pub one_empty_more : (n : ℕ) → replicate n [] ++ [] ∷ [] ≡ replicate {A = CellData} (n + 1) []
one_empty_more zero = refl
one_empty_more (suc n) =
    let next : suc (n + 1) ≡ suc n + 1 = omega arith in
    ap (λ cells. [] ∷ cells) (one_empty_more n) ∙ ap (λ m. replicate {A = CellData} m []) next

module _ (place : Row → ℕ) (rows : List Row) (row : Row) where
  -- the part of the row has it behind its rows, and each other part stays
  part_here : (r : ℕ) → place row ≡ r → part_of place (rows ++ row ∷ []) r ≡ part_of place rows r ++ row ∷ []
  part_here r here =
      let yes : (place row == r) ≡ true = grind (arith, nat_tests, here) in
      filter-append (λ x. place x == r) rows (row ∷ []) ∙ ap (λ b. part_of place rows r ++ cond b (row ∷ []) []) yes

  part_else : (r : ℕ) → (place row == r) ≡ false → part_of place (rows ++ row ∷ []) r ≡ part_of place rows r
  part_else r other =
      filter-append (λ x. place x == r) rows (row ∷ []) ∙ (ap (λ b. part_of place rows r ++ cond b (row ∷ []) []) other ∙ append-nil (part_of place rows r))

  parts_above : (a n : ℕ) → place row < a → map (part_of place rows) (range_with_len a n) ≡ map (part_of place (rows ++ row ∷ [])) (range_with_len a n)
  parts_above a zero below = refl
  parts_above a (suc n) below =
      let other : (place row == a) ≡ false = grind (arith, nat_tests, below) in
      ap (λ part. part ∷ map (part_of place rows) (range_with_len (a + 1) n)) (sym (part_else a other))
      ∙ ap (λ parts. part_of place (rows ++ row ∷ []) a ∷ parts) (parts_above (a + 1) n (omega (arith, below)))

  parts_with : (a n i r : ℕ) → i < n → a + i ≡ r → place row ≡ r
      → slice_set (map (part_of place rows) (range_with_len a n)) i (part_of place rows r ++ row ∷ []) ≡ map (part_of place (rows ++ row ∷ [])) (range_with_len a n)
  parts_with a zero i r lt at here = absurd (let no : ⊥ = omega (arith, lt) in no)
  parts_with a (suc n) zero r lt at here =
      let same : r ≡ a = omega (arith, at) in
      ap (λ part. part ∷ map (part_of place rows) (range_with_len (a + 1) n)) (sym (part_here r here) ∙ ap (part_of place (rows ++ row ∷ [])) same)
      ∙ ap (λ parts. part_of place (rows ++ row ∷ []) a ∷ parts) (parts_above (a + 1) n (omega (arith, here, same)))
  parts_with a (suc n) (suc i) r lt at here =
      let other : (place row == a) ≡ false = grind (arith, nat_tests, at, here) in
      ap (λ part. part ∷ slice_set (map (part_of place rows) (range_with_len (a + 1) n)) i (part_of place rows r ++ row ∷ [])) (sym (part_else a other))
      ∙ ap (λ parts. part_of place (rows ++ row ∷ []) a ∷ parts) (parts_with (a + 1) n i r (omega (arith, lt)) (omega (arith, at)) here)

-- where a row is put into the part of its place, the parts are those with the row
pub one_more : (place : Row → ℕ) (n : ℕ) (rows : List Row) (row : Row) → place row < n → with_row (exchanged place n rows) (place row) row ≡ exchanged place n (rows ++ row ∷ [])
one_more place n rows row lt =
    let standing : get_or (exchanged place n rows) (place row) [] ≡ part_of place rows (place row) = get_or-map-range_with_len (part_of place rows) 0 n (place row) (place row) [] lt (omega arith) in
    ap (λ part. slice_set (exchanged place n rows) (place row) (part ++ row ∷ [])) standing ∙ parts_with place rows row 0 n (place row) (place row) lt (omega arith) refl

pub so_many : (place : Row → ℕ) (n : ℕ) (rows : List Row) (parts : List CellData) → parts ≡ exchanged place n rows → length parts ≡ n
so_many place n rows parts same = ap length same ∙ length-map-range_with_len (part_of place rows) 0 n

-- a step of the walk over rows that move, and over rows that are lent
pub placed_more : (n : ℕ) (keys : List Expr) (rows : List Row) (row : Row) (parts parts' : List CellData) → 1 ≤ n
    → parts ≡ exchanged (by_hash n keys) n rows → parts' ≡ with_row parts (by_hash n keys row) row → parts' ≡ exchanged (by_hash n keys) n (rows ++ row ∷ [])
placed_more n keys rows row parts parts' le same put =
    put ∙ ap (λ cells. with_row cells (by_hash n keys row) row) same ∙ one_more (by_hash n keys) n rows row (are_hash_parts n keys row le)

pub placed_next : (n : ℕ) (keys : List Expr) (rows : List Row) (i : ℕ) (row : Row) (parts parts' : List CellData) → 1 ≤ n → i < length rows → row ≡ get_or rows i row
    → parts ≡ exchanged (by_hash n keys) n (take i rows) → parts' ≡ with_row parts (by_hash n keys row) row → parts' ≡ exchanged (by_hash n keys) n (take (i + 1) rows)
placed_next n keys rows i row parts parts' le lt at same put =
    placed_more n keys (take i rows) row parts parts' le same put ∙ ap (exchanged (by_hash n keys) n) (ap (λ x. take i rows ++ x ∷ []) at ∙ sym (take_more rows i row lt))
