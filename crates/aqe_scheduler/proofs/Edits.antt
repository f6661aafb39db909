-- A list with one item changed.
use Rattle.std.proofs.Common.{◌≡◌, ℕ, zero, suc, ◌<◌, ◌≤◌, Bool, true, false, cond, ◌==◌, List, [], ◌∷◌, map, length, set, get_or, refl, ap, Option, None, slice_get, arith}
use Rattle.std.specs.Option.{option_map}
use Rattle.std.proofs.Math.Dec.{eqb-suc-suc, eqb-zero-suc, eqb-suc-zero}
use Rattle.aqe_scheduler.specs.Tables.{edited}

-- the write of an item that was made from the one that stood there
pub set_edited : {X : Type 0} (change : X → X) (xs : List X) (i : ℕ) (y d : X) → i < length xs → y ≡ change (get_or xs i d) → set xs i y ≡ edited i change xs
set_edited change [] i y d below made = absurd (omega (arith, below))
set_edited change (x ∷ xs) zero y d below made = ap (λ z. z ∷ xs) made
set_edited change (x ∷ xs) (suc i) y d below made = ap (λ zs. x ∷ zs) (set_edited change xs i y d (omega (arith, below)) made)

-- beyond the end nothing changes
pub edited_outside : {X : Type 0} (change : X → X) (xs : List X) (i : ℕ) → length xs ≤ i → edited i change xs ≡ xs
edited_outside change [] i past = refl
edited_outside change (x ∷ xs) zero past = absurd (omega (arith, past))
edited_outside change (x ∷ xs) (suc i) past = ap (λ zs. x ∷ zs) (edited_outside change xs i (omega (arith, past)))

-- what stands at a place behind the change
pub get_edited : {X : Type 0} (change : X → X) (xs : List X) (i j : ℕ) → slice_get (edited i change xs) j ≡ cond (i == j) (option_map change (slice_get xs j)) (slice_get xs j)
get_edited {X} change [] i j = alike (i == j)
  where
    alike : (b : Bool) → ◌≡◌ {A = Option X} None (cond b None None)
    alike true = refl
    alike false = refl
get_edited change (x ∷ xs) zero zero = refl
get_edited change (x ∷ xs) zero (suc j) = rw (eqb-zero-suc j) refl
get_edited change (x ∷ xs) (suc i) zero = rw (eqb-suc-zero i) refl
get_edited change (x ∷ xs) (suc i) (suc j) = rw (eqb-suc-suc i j) (get_edited change xs i j)

-- a view that the change keeps
pub map_edited : {X Y : Type 0} (view : X → Y) (change : X → X) (xs : List X) (i : ℕ) → ((x : X) → view (change x) ≡ view x) → map view (edited i change xs) ≡ map view xs
map_edited view change [] i same = refl
map_edited view change (x ∷ xs) zero same = ap (λ y. y ∷ map view xs) (same x)
map_edited view change (x ∷ xs) (suc i) same = ap (λ ys. view x ∷ ys) (map_edited view change xs i same)

pub length_edited : {X : Type 0} (change : X → X) (xs : List X) (i : ℕ) → length (edited i change xs) ≡ length xs
length_edited change [] i = refl
length_edited change (x ∷ xs) zero = refl
length_edited change (x ∷ xs) (suc i) = ap suc (length_edited change xs i)

-- the write of an item that was made from the one that was found there
pub edited_at : {X : Type 0} (change : X → X) (xs : List X) (i : ℕ) (x : X) → i < length xs → x ≡ get_or xs i x → set xs i (change x) ≡ edited i change xs
edited_at change xs i x below is = set_edited change xs i (change x) x below (ap change is)

-- an item that is there, by any default
pub any_default : {X : Type 0} (xs : List X) (i : ℕ) (d e : X) → i < length xs → get_or xs i d ≡ get_or xs i e
any_default [] i d e below = absurd (omega (arith, below))
any_default (x ∷ xs) zero d e below = refl
any_default (x ∷ xs) (suc i) d e below = any_default xs i d e (omega (arith, below))
