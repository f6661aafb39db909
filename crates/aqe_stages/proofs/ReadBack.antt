-- The plain read of the cells that are made of parts is the exchange of these parts.
use Rattle.std.proofs.Common.{◌≡◌, ℕ, zero, suc, ◌+◌, ◌-◌, ◌<◌, ◌≤◌, List, [], ◌∷◌, ◌++◌, map, length, get_or, refl, ap, sym, ◌∙◌, arith, append_assoc, append-nil, length-append}
use Rattle.std.specs.Prelude.{flat_map, ◌==◌}
use Rattle.std.specs.List.{range_with_len}
use Rattle.std.proofs.Math.Seq.{get_or-append_seam}
use Rattle.std.proofs.lemmas.List.{length-map}
use Rattle.std.proofs.lemmas.List.FromFn.{get_or-map-range_with_len}
use Rattle.aqe_logical.specs.Answers.{Row}
use Rattle.aqe_places.specs.Places.{part_of, exchanged}
use Rattle.aqe_partial.specs.PartialRows.{joined_parts}
use Rattle.aqe_partial.proofs.Lists.{filter_flat_map}
use Rattle.aqe_rects.specs.Rectangles.{plain_rect, plain_rects}
use Rattle.aqe_stages.specs.Cells.{cell, rect_rows, all_rows}

-- a list taken by its places, behind others
by_places : {X Y : Type 0} (g : X → List Y) (d : X) (front xs : List X) (a : ℕ) → length front ≡ a →
    flat_map (λ m. g (get_or (front ++ xs) m d)) (range_with_len a (length xs)) ≡ flat_map g xs
by_places g d front [] a e = refl
by_places g d front (x ∷ xs) a e =
    let here : get_or (front ++ x ∷ xs) a d ≡ x = ap (λ (n : ℕ). get_or (front ++ x ∷ xs) n d) (sym e) ∙ get_or-append_seam front x xs d in
    let one = length-append front (x ∷ []) in
    let rest = by_places g d (front ++ x ∷ []) xs (a + 1) (omega (arith, one, e)) in
    let whole : (front ++ x ∷ []) ++ xs ≡ front ++ x ∷ xs = append_assoc front (x ∷ []) xs in
    (λ i. g (here i) ++ flat_map (λ m. g (get_or (sym whole i) m d)) (range_with_len (a + 1) (length xs))) ∙
    ap (λ ys. g x ++ ys) rest

flat_map_map : {X Y Z : Type 0} (g : Y → List Z) (f : X → Y) (xs : List X) → flat_map g (map f xs) ≡ flat_map (λ x. g (f x)) xs
flat_map_map g f [] = refl
flat_map_map g f (x ∷ xs) = ap (λ zs. g (f x) ++ zs) (flat_map_map g f xs)

-- the cells of one reducer, map by map
column : (f : Row → ℕ) (n r : ℕ) (ps : List (List Row)) → r < n →
    flat_map (λ m. cell (map (exchanged f n) ps) m r) (range_with_len 0 (length ps)) ≡ part_of f (joined_parts ps) r
column f n r ps lt =
    (λ i. flat_map (λ m. cell (map (exchanged f n) ps) m r) (range_with_len 0 (sym (length-map ps (exchanged f n)) i))) ∙
    (by_places (λ (row : List (List Row)). get_or row r []) [] [] (map (exchanged f n) ps) 0 refl ∙
    (flat_map_map (λ (row : List (List Row)). get_or row r []) (exchanged f n) ps ∙
    ((λ i. flat_map (λ part. get_or-map-range_with_len (part_of f part) 0 n r r [] lt (omega arith) i) ps) ∙
    sym (filter_flat_map (λ row. f row == r) (λ part. part) ps))))

-- the plain rectangle of one reducer has its cells
one_reducer : (f : Row → ℕ) (n r : ℕ) (ps : List (List Row)) → r < n →
    rect_rows (map (exchanged f n) ps) (plain_rect (length ps) r) ≡ part_of f (joined_parts ps) r
one_reducer f n r ps lt =
    let one : r + 1 - r ≡ 1 = omega arith in
    let maps : length ps - 0 ≡ length ps = omega arith in
    (λ i. flat_map (λ r'. flat_map (λ m. cell (map (exchanged f n) ps) m r') (range_with_len 0 (maps i))) (range_with_len r (one i))) ∙
    (append-nil (flat_map (λ m. cell (map (exchanged f n) ps) m r) (range_with_len 0 (length ps))) ∙ column f n r ps lt)

read_from : (f : Row → ℕ) (n a k : ℕ) (ps : List (List Row)) → a + k ≤ n →
    map (rect_rows (map (exchanged f n) ps)) (map (plain_rect (length ps)) (range_with_len a k)) ≡ map (part_of f (joined_parts ps)) (range_with_len a k)
read_from f n a zero ps le = refl
read_from f n a (suc k) ps le =
    let here = one_reducer f n a ps (omega (arith, le)) in
    let rest = read_from f n (a + 1) k ps (omega (arith, le)) in
    (λ i. here i ∷ rest i)

pub read_back : (f : Row → ℕ) (n : ℕ) (ps : List (List Row)) →
    map (rect_rows (map (exchanged f n) ps)) (plain_rects (length ps) n) ≡ exchanged f n (joined_parts ps)
read_back f n ps = read_from f n 0 n ps (omega arith)

-- what is kept as one cell of each part, read whole
pub all_kept : (h : List Row → List Row) (ps : List (List Row)) → all_rows (map (λ part. h part ∷ []) ps) ≡ flat_map h ps
all_kept h [] = refl
all_kept h (p ∷ ps) = (λ i. append-nil (h p) i ++ all_kept h ps i)
