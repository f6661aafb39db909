-- Loops that measure a chain or a list operand by operand.
use Rattle.std.proofs.Common.{ℕ, suc, ◌≡◌, ◌≤◌, ◌<◌, ◌+◌, List, [], ◌∷◌, map, max, length, drop, get_or, sym, subst, ap, ◌∙◌, arith, add-one, drop-cons, refl}
use Rattle.std.proofs.Math.Nat.{le-max_left, le-max_right}
use Rattle.std.proofs.lemmas.List.{drop_all}
use Rattle.aqe_script.specs.Nesting.{over, deepest, chain_depth}

from_next : {X : Type 0} (xs : List X) (i : ℕ) (x : X) → i < length xs → x ≡ get_or xs i x → drop i xs ≡ x ∷ drop (i + 1) xs
from_next xs i x below e = rw (add-one, drop-cons xs i x) (ap (λ (y : _). y ∷ drop (suc i) xs) (sym e))

chain_grows : (xs : List ℕ) (a : ℕ) → a ≤ chain_depth a xs
chain_grows [] a = omega arith
chain_grows (b ∷ xs) a = omega (arith, le-max_left a b, chain_grows xs (over a b))

-- a chain from its first operand on
pub chain_begun : {U : Type 0} (f : U → ℕ) (xs : List U) {d first whole : ℕ} → d ≡ first → whole ≡ chain_depth first (map f xs) → chain_depth d (map f xs) ≡ whole
chain_begun f xs e h = ap (λ (a : ℕ). chain_depth a (map f xs)) e ∙ sym h

-- one operand more
pub chain_turn : {U : Type 0} (f : U → ℕ) (xs : List U) (i : ℕ) (next : U) (d : ℕ) {more whole : ℕ} → i < length xs → next ≡ get_or xs i next →
    chain_depth d (map f (drop i xs)) ≡ whole → more ≡ over d (f next) → chain_depth more (map f (drop (i + 1) xs)) ≡ whole
chain_turn f xs i next d below e h m =
    ap (λ (a : ℕ). chain_depth a (map f (drop (i + 1) xs))) m ∙ ap (λ (ys : List _). chain_depth d (map f ys)) (sym (from_next xs i next below e)) ∙ h

-- where what stands so far is too deep, so is the whole
pub chain_deep : {U : Type 0} (f : U → ℕ) (xs : List U) (i : ℕ) (next : U) (d : ℕ) {whole room : ℕ} → i < length xs → next ≡ get_or xs i next →
    chain_depth d (map f (drop i xs)) ≡ whole → room < over d (f next) → room < whole
chain_deep f xs i next d below e h m =
    let go = chain_turn f xs i next d {more = over d (f next)} below e h refl in
    let grows = chain_grows (map f (drop (i + 1) xs)) (over d (f next)) in
    omega (arith, go, grows, m)

pub chain_deep_next : {U : Type 0} (f : U → ℕ) (xs : List U) (i : ℕ) (next : U) (d : ℕ) {whole room : ℕ} → i < length xs → next ≡ get_or xs i next →
    chain_depth d (map f (drop i xs)) ≡ whole → room < f next → room < whole
chain_deep_next f xs i next d below e h m = let large = le-max_right d (f next) in chain_deep f xs i next d below e h (omega (arith, large, m))

pub chain_deep_first : {U : Type 0} (f : U → ℕ) (xs : List U) {first whole room : ℕ} → whole ≡ chain_depth first (map f xs) → room < first → room < whole
chain_deep_first f xs {first = first} e m = let grows = chain_grows (map f xs) first in omega (arith, e, grows, m)

pub chain_done : {U : Type 0} (f : U → ℕ) (xs : List U) (i : ℕ) {d whole : ℕ} → length xs ≤ i → chain_depth d (map f (drop i xs)) ≡ whole → d ≡ whole
chain_done f xs i {d = d} {whole = whole} h e = subst (λ (ys : List _). chain_depth d (map f ys) ≡ whole) (drop_all i xs h) e

-- the greatest of a list

pub most_turn : {U : Type 0} (f : U → ℕ) (xs : List U) (i : ℕ) (next : U) (d : ℕ) {more whole : ℕ} → i < length xs → next ≡ get_or xs i next →
    max d (deepest (map f (drop i xs))) ≡ whole → more ≡ max d (f next) → max more (deepest (map f (drop (i + 1) xs))) ≡ whole
most_turn f xs i next d {more = more} {whole = whole} below e h m =
    let split : max d (max (f next) (deepest (map f (drop (i + 1) xs)))) ≡ whole =
    subst (λ (ys : List _). max d (deepest (map f ys)) ≡ whole) (from_next xs i next below e) h in
    omega (arith, split, m)

pub most_deep : {U : Type 0} (f : U → ℕ) (xs : List U) (i : ℕ) (next : U) (d : ℕ) {whole room : ℕ} → i < length xs → next ≡ get_or xs i next →
    max d (deepest (map f (drop i xs))) ≡ whole → room < f next → room < whole
most_deep f xs i next d {whole = whole} below e h m =
    let split : max d (max (f next) (deepest (map f (drop (i + 1) xs)))) ≡ whole =
    subst (λ (ys : List _). max d (deepest (map f ys)) ≡ whole) (from_next xs i next below e) h in
    omega (arith, split, m)

pub most_done : {U : Type 0} (f : U → ℕ) (xs : List U) (i : ℕ) {d whole : ℕ} → length xs ≤ i → max d (deepest (map f (drop i xs))) ≡ whole → d ≡ whole
most_done f xs i {d = d} {whole = whole} h e =
    let end : max d 0 ≡ whole = subst (λ (ys : List _). max d (deepest (map f ys)) ≡ whole) (drop_all i xs h) e in
    omega (arith, end)

-- what a loop over a chain keeps: the nesting so far fits, and the rest makes the whole of it
pub record ChainLeft {U : Type 0} (f : U → ℕ) (xs : List U) (i d whole room : ℕ) : Type 0 where
  pub so_far : chain_depth d (map f (drop i xs)) ≡ whole
  pub fits : d ≤ room

pub chain_opened : {U : Type 0} (f : U → ℕ) (xs : List U) {d first whole room : ℕ} → d ≡ first → d ≤ room → whole ≡ chain_depth first (map f xs) → ChainLeft f xs 0 d whole room
chain_opened f xs e h w = record { so_far = chain_begun f xs e w; fits = h }

pub chain_kept : {U : Type 0} (f : U → ℕ) (xs : List U) (i : ℕ) (next : U) (d : ℕ) {one more whole room : ℕ} → i < length xs → next ≡ get_or xs i next → ChainLeft f xs i d whole room →
    one ≡ f next → more ≡ over d one → more ≤ room → ChainLeft f xs (i + 1) more whole room
chain_kept f xs i next d below e l o m h = record { so_far = chain_turn f xs i next d below e l.so_far (m ∙ ap (over d) o); fits = h }

pub chain_left : {U : Type 0} (f : U → ℕ) (xs : List U) (i : ℕ) {d whole room : ℕ} → length xs ≤ i → ChainLeft f xs i d whole room → (d ≡ whole) × (d ≤ room)
chain_left f xs i h l = (chain_done f xs i h l.so_far, l.fits)
