-- Texts made piece by piece.
use Rattle.std.proofs.Common.{◌≡◌, ℕ, ◌+◌, ◌<◌, List, [], ◌∷◌, ◌++◌, length, get_or, take, ap, sym, append_assoc, map}
use Rattle.std.specs.List.{flat_map, join_with_byte}
use Rattle.std.proofs.lemmas.List.{append-nil, take_more}
use Rattle.std.proofs.lemmas.Grind.{flat_map-append}

-- one piece more
pub flat_map-more : {X : Type 0} (f : X → List ℕ) (xs : List X) (i : ℕ) (d : X) (start now next : List ℕ)
    → i < length xs → now ≡ start ++ flat_map f (take i xs) → next ≡ now ++ f (get_or xs i d) → next ≡ start ++ flat_map f (take (i + 1) xs)
flat_map-more f xs i d start now next h e k =
    let last : flat_map f (get_or xs i d ∷ []) ≡ f (get_or xs i d) = append-nil (f (get_or xs i d)) in
    rw (take_more xs i d h, flat_map-append f (take i xs) (get_or xs i d ∷ []), last, ← append_assoc start (flat_map f (take i xs)) (f (get_or xs i d)), ← e) k

-- pieces with a byte between each two: the first, and then each with the byte before it
pub joined_map : {X : Type 0} (c : ℕ) (f : X → List ℕ) (x : X) (xs : List X)
    → join_with_byte c (map f (x ∷ xs)) ≡ f x ++ flat_map (λ y. c ∷ f y) xs
joined_map c f x [] = sym (append-nil (f x))
joined_map c f x (y ∷ ys) = ap (λ (r : List ℕ). f x ++ (c ∷ r)) (joined_map c f y ys)

-- the first piece was written, and then the others
pub joined_parts : {X : Type 0} (c : ℕ) (f : X → List ℕ) (xs rest : List X) (x : X) (start now next : List ℕ)
    → xs ≡ x ∷ rest → now ≡ start ++ f x → next ≡ now ++ flat_map (λ y. c ∷ f y) rest → next ≡ start ++ join_with_byte c (map f xs)
joined_parts c f xs rest x start now next e h k =
    rw (e, joined_map c f x rest, ← append_assoc start (f x) (flat_map (λ y. c ∷ f y) rest), ← h) k
