-- One turn of a search in a list.
use Rattle.std.proofs.Common.{ℕ, ◌≡◌, ◌<◌, ◌+◌, Bool, true, false, List, ◌∷◌, length, drop, get_or, subst, find}
use Rattle.std.specs.Prelude.{Option, Some, cond}
use Rattle.std.proofs.lemmas.List.{drop_more}

pub found_here : {X : Type 0} (p : X → Bool) (xs : List X) (i : ℕ) (d : X) {whole : Option X} → i < length xs → p (get_or xs i d) ≡ true →
    find p (drop i xs) ≡ whole → Some (get_or xs i d) ≡ whole
found_here p xs i d {whole = whole} below here h =
    let split : find p (get_or xs i d ∷ drop (i + 1) xs) ≡ whole = subst (λ (ys : List _). find p ys ≡ whole) (drop_more xs i d below) h in
    subst (λ (b : Bool). cond b (Some (get_or xs i d)) (find p (drop (i + 1) xs)) ≡ whole) here split

pub found_later : {X : Type 0} (p : X → Bool) (xs : List X) (i : ℕ) (d : X) {whole : Option X} → i < length xs → p (get_or xs i d) ≡ false →
    find p (drop i xs) ≡ whole → find p (drop (i + 1) xs) ≡ whole
found_later p xs i d {whole = whole} below other h =
    let split : find p (get_or xs i d ∷ drop (i + 1) xs) ≡ whole = subst (λ (ys : List _). find p ys ≡ whole) (drop_more xs i d below) h in
    subst (λ (b : Bool). cond b (Some (get_or xs i d)) (find p (drop (i + 1) xs)) ≡ whole) other split
