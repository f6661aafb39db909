-- The first place of a byte in a text.
use Rattle.std.proofs.Common.{◌≡◌, ℕ, suc, List, [], ◌∷◌, ◌++◌, refl, arith, Bool, true, false, ◌&&◌, Contains, IsTrue}
use Rattle.std.specs.List.{list_all}
use Rattle.std.proofs.lemmas.List.Sums.{AllPass-from_list_all}
use Rattle.std.proofs.lemmas.List.Elements.{All-contains}

pub contains_middle : (x r : List ℕ) (e : ℕ) → Contains (x ++ e ∷ r) e
contains_middle [] r e = (0, omega arith, refl)
contains_middle (b ∷ x) r e =
    let more = contains_middle x r e in
    (suc more.0, omega (arith, more.1), more.2)

first_of : (e : ℕ) (x : List ℕ) → Contains (e ∷ x) e
first_of e x = (0, omega arith, refl)

later : (b e : ℕ) (x : List ℕ) → Contains x e → Contains (b ∷ x) e
later b e x h = (suc h.0, omega (arith, h.1), h.2)

-- the first place of a byte is one place
pub cut_once : (e : ℕ) (x y r s : List ℕ) → x ++ e ∷ r ≡ y ++ e ∷ s → ¬ (Contains x e) → ¬ (Contains y e) → (x ≡ y) × (r ≡ s)
cut_once e [] [] r s h m n = (refl, cc)
cut_once e [] (b ∷ y) r s h m n = let here : e ≡ b = cc in absurd (n (rw here (first_of b y)))
cut_once e (a ∷ x) [] r s h m n = let here : e ≡ a = cc in absurd (m (rw here (first_of a x)))
cut_once e (a ∷ x) (b ∷ y) r s h m n =
    let tails : x ++ e ∷ r ≡ y ++ e ∷ s = cc in
    let heads : a ≡ b = cc in
    let more = cut_once e x y r s tails (λ k. m (later a e x k)) (λ k. n (later b e y k)) in
    (rw (heads, more.0) refl, more.1)

-- where each byte passes a test, a byte that fails it is not there
pub lacks : (p : ℕ → Bool) (xs : List ℕ) (e : ℕ) → IsTrue (list_all p xs) → p e ≡ false → ¬ (Contains xs e)
lacks p xs e h f k =
    let yes = All-contains (λ x. p x ≡ true) xs e (AllPass-from_list_all p xs h) k in
    cc (yes, f)

pub both : (a b : Bool) → IsTrue (a && b) → IsTrue a × IsTrue b
both true true h = (refl, refl)
both true false h = cc h
both false b h = cc h
