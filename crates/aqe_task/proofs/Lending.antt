-- One more of the pieces and rows that are walked.
use Rattle.std.proofs.Common.{◌≡◌, ℕ, zero, suc, ◌+◌, ◌-◌, ◌<◌, ◌≤◌, List, [], ◌∷◌, ◌++◌, length, get_or, take, map, refl, ap, sym, ◌∙◌, arith, append_assoc}
use Rattle.std.specs.Prelude.{flat_map}
use Rattle.std.specs.List.{range_with_len}
use Rattle.std.proofs.lemmas.List.{append-nil, take_more}
use Rattle.std.proofs.lemmas.List.FromFn.{map-range_with_len_more}
use Rattle.std.proofs.lemmas.Grind.{flat_map-append}
use Rattle.std.specs.Borrow.{Bor}
use Rattle.aqe_logical.specs.Answers.{Row}
use Rattle.aqe_partial.specs.PartialRows.{joined_parts}
use Rattle.aqe_operators.specs.Lent.{lent_rows}
use Rattle.aqe_stages.specs.Cells.{numbers}

-- the rows of a list of pieces with one more
pub lent_push : (pieces : List (Bor (List Row))) (piece : Bor (List Row)) → lent_rows (pieces ++ piece ∷ []) ≡ lent_rows pieces ++ piece.now
lent_push pieces piece =
    flat_map-append (λ (p : Bor (List Row)). p.now) pieces (piece ∷ []) ∙ ap (λ rows. lent_rows pieces ++ rows) (append-nil piece.now)

pub piece_more : (pieces : List (Bor (List Row))) (i : ℕ) (piece : Bor (List Row)) → i < length pieces → piece ≡ get_or pieces i piece
    → lent_rows (take (i + 1) pieces) ≡ lent_rows (take i pieces) ++ piece.now
piece_more pieces i piece h e =
    ap lent_rows (take_more pieces i piece h ∙ ap (λ y. take i pieces ++ y ∷ []) (sym e)) ∙ lent_push (take i pieces) piece

-- what is made of numbers from one up to another, and of one more
flat_as : (f : ℕ → List Row) (xs : List ℕ) → flat_map f xs ≡ joined_parts (map f xs)
flat_as f [] = refl
flat_as f (x ∷ xs) = ap (λ (l : List Row). f x ++ l) (flat_as f xs)

pub flat_more : (f : ℕ → List Row) (a j : ℕ) → a ≤ j → flat_map f (numbers a (j + 1)) ≡ flat_map f (numbers a j) ++ f j
flat_more f a j h =
    let e : (j + 1) - a ≡ (j - a) + 1 = omega (arith, h) in
    let s : a + (j - a) ≡ j = omega (arith, h) in
    flat_as f (numbers a (j + 1)) ∙ (ap (λ (n : ℕ). joined_parts (map f (range_with_len a n))) e ∙
    (ap joined_parts (map-range_with_len_more f a (j - a) j s) ∙
    (flat_map-append (λ (p : List Row). p) (map f (numbers a j)) (f j ∷ []) ∙
    (λ i. sym (flat_as f (numbers a j)) i ++ append-nil (f j) i))))

pub lent_next : (new pieces : List (Bor (List Row))) (piece : Bor (List Row)) (before : List Row) (f : ℕ → List Row) (a j : ℕ) → a ≤ j
    → new ≡ pieces ++ piece ∷ [] → lent_rows pieces ≡ before ++ flat_map f (numbers a j) → piece.now ≡ f j
    → lent_rows new ≡ before ++ flat_map f (numbers a (j + 1))
lent_next new pieces piece before f a j h grown held is =
    ap lent_rows grown ∙ (lent_push pieces piece ∙ ((λ i. held i ++ is i) ∙
    (append_assoc before (flat_map f (numbers a j)) (f j) ∙ ap (λ (l : List Row). before ++ l) (sym (flat_more f a j h)))))

flat_same : (f g : ℕ → List Row) (a n : ℕ) → ((m : ℕ) → a ≤ m → m < a + n → f m ≡ g m) → flat_map f (range_with_len a n) ≡ flat_map g (range_with_len a n)
flat_same f g a zero h = refl
flat_same f g a (suc n) h =
    let first = h a (omega arith) (omega arith) in
    let rest = flat_same f g (a + 1) n (λ m low high. h m (omega (arith, low)) (omega (arith, high))) in
    (λ i. first i ++ rest i)

-- functions that agree on the numbers make the same of them
pub numbers_same : (f g : ℕ → List Row) (a b : ℕ) → ((m : ℕ) → a ≤ m → m < b → f m ≡ g m) → flat_map f (numbers a b) ≡ flat_map g (numbers a b)
numbers_same f g a b h = flat_same f g a (b - a) (λ m low high. h m low (omega (arith, low, high)))
