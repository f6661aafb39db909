-- One more of the rows that are walked.
use Rattle.std.proofs.Common.{◌≡◌, ℕ, ◌+◌, ◌<◌, List, [], ◌∷◌, ◌++◌, length, get_or, take, map, filter, Bool, ap, sym, ◌∙◌}
use Rattle.std.proofs.lemmas.List.{append-nil, take_more, map-append}
use Rattle.std.proofs.lemmas.List.Sums.{fold-append}
use Rattle.std.proofs.lemmas.Grind.{flat_map-append}
use Rattle.std.specs.Prelude.{fold}
use Rattle.std.specs.Borrow.{Bor}
use Rattle.aqe_logical.specs.Answers.{Row}
use Rattle.aqe_operators.specs.Lent.{lent_rows}
use Rattle.std.proofs.lemmas.List.Elements.{filter-append}

seen_more : {X : Type 0} (xs : List X) (i : ℕ) (x : X) → i < length xs → x ≡ get_or xs i x → take (i + 1) xs ≡ take i xs ++ x ∷ []
seen_more xs i x h e = take_more xs i x h ∙ ap (λ y. take i xs ++ y ∷ []) (sym e)

pub kept_more : {X : Type 0} (p : X → Bool) (xs : List X) (i : ℕ) (x : X) → i < length xs → x ≡ get_or xs i x
    → filter p (take (i + 1) xs) ≡ filter p (take i xs) ++ filter p (x ∷ [])
kept_more p xs i x h e = ap (filter p) (seen_more xs i x h e) ∙ filter-append p (take i xs) (x ∷ [])

pub made_more : {X Y : Type 0} (f : X → Y) (xs : List X) (i : ℕ) (x : X) → i < length xs → x ≡ get_or xs i x
    → map f (take (i + 1) xs) ≡ map f (take i xs) ++ f x ∷ []
made_more f xs i x h e = ap (map f) (seen_more xs i x h e) ∙ map-append f (take i xs) (x ∷ [])

pub folded_more : {X Y : Type 0} (g : Y → X → Y) (z : Y) (xs : List X) (i : ℕ) (x : X) → i < length xs → x ≡ get_or xs i x
    → fold g z (take (i + 1) xs) ≡ g (fold g z (take i xs)) x
folded_more g z xs i x h e = ap (fold g z) (seen_more xs i x h e) ∙ fold-append g z (take i xs) (x ∷ [])

-- the rows of one piece more
piece_more : (pieces : List (Bor (List Row))) (i : ℕ) (piece : Bor (List Row)) → i < length pieces → piece ≡ get_or pieces i piece
    → lent_rows (take (i + 1) pieces) ≡ lent_rows (take i pieces) ++ piece.now
piece_more pieces i piece h e =
    ap lent_rows (seen_more pieces i piece h e) ∙
    (flat_map-append (λ (p : Bor (List Row)). p.now) (take i pieces) (piece ∷ []) ∙ ap (λ rows. lent_rows (take i pieces) ++ rows) (append-nil piece.now))

pub kept_piece : (p : Row → Bool) (pieces : List (Bor (List Row))) (i : ℕ) (piece : Bor (List Row)) → i < length pieces → piece ≡ get_or pieces i piece
    → filter p (lent_rows (take (i + 1) pieces)) ≡ filter p (lent_rows (take i pieces)) ++ filter p piece.now
kept_piece p pieces i piece h e = ap (filter p) (piece_more pieces i piece h e) ∙ filter-append p (lent_rows (take i pieces)) piece.now

pub made_piece : (f : Row → Row) (pieces : List (Bor (List Row))) (i : ℕ) (piece : Bor (List Row)) → i < length pieces → piece ≡ get_or pieces i piece
    → map f (lent_rows (take (i + 1) pieces)) ≡ map f (lent_rows (take i pieces)) ++ map f piece.now
made_piece f pieces i piece h e = ap (map f) (piece_more pieces i piece h e) ∙ map-append f (lent_rows (take i pieces)) piece.now

pub folded_piece : {Y : Type 0} (g : Y → Row → Y) (z : Y) (pieces : List (Bor (List Row))) (i : ℕ) (piece : Bor (List Row)) → i < length pieces → piece ≡ get_or pieces i piece
    → fold g z (lent_rows (take (i + 1) pieces)) ≡ fold g (fold g z (lent_rows (take i pieces))) piece.now
folded_piece g z pieces i piece h e = ap (fold g z) (piece_more pieces i piece h e) ∙ fold-append g z (lent_rows (take i pieces)) piece.now
