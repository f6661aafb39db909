-- The sizes of groups that begin at one partition.
use Rattle.std.proofs.Common.{◌≡◌, ℕ, zero, suc, ◌+◌, ◌-◌, ◌<◌, ◌≤◌, List, [], ◌∷◌, length, take, drop, get_or, ap, ◌∙◌, arith, length-drop}
use Rattle.std.specs.Prelude.{sum}
use Rattle.std.proofs.lemmas.List.{get_or-drop}
use Rattle.std.proofs.lemmas.List.Sums.{sum_by-cons, sum_by_more, sum_by-take-le, sum_by-take-drop}
use Rattle.aqe_coalesce.specs.Coalesced.{size_of}

-- a group with one partition more
pub size_of_more : (sizes : List ℕ) (a b d : ℕ) → a ≤ b → b < length sizes → size_of sizes (a, b + 1) ≡ size_of sizes (a, b) + get_or sizes b d
size_of_more sizes a b d le lt =
    let count : b + 1 - a ≡ b - a + 1 = omega (arith, le) in
    let inside : b - a < length (drop a sizes) = rw length-drop (omega (arith, le, lt)) in
    let at : a + (b - a) ≡ b = omega (arith, le) in
    ap (λ n. sum (take n (drop a sizes))) count ∙ sum_by_more (λ x. x) (drop a sizes) (b - a) d inside
    ∙ ap (λ x. size_of sizes (a, b) + x) (get_or-drop a sizes (b - a) d ∙ ap (λ i. get_or sizes i d) at)

-- no group is larger than the whole
pub size_of_le : (sizes : List ℕ) (a b : ℕ) → size_of sizes (a, b) ≤ sum sizes
size_of_le sizes a b =
    let here : size_of sizes (a, b) ≤ sum (drop a sizes) = sum_by-take-le (λ x. x) (drop a sizes) (b - a) in
    let whole : sum (take a sizes) + sum (drop a sizes) ≡ sum sizes = sum_by-take-drop (λ x. x) sizes a in
    omega (arith, here, whole)

-- a group that ends later is as large or larger
sum_take_le : (sizes : List ℕ) (m n : ℕ) → m ≤ n → sum (take m sizes) ≤ sum (take n sizes)
sum_take_le [] zero n le = omega arith
sum_take_le [] (suc m) n le = omega arith
sum_take_le (x ∷ xs) zero n le = omega arith
sum_take_le (x ∷ xs) (suc m) zero le = absurd (let no : ⊥ = omega (arith, le) in no)
sum_take_le (x ∷ xs) (suc m) (suc n) le =
    let rest : sum (take m xs) ≤ sum (take n xs) = sum_take_le xs m n (omega (arith, le)) in
    let more_m : sum (x ∷ take m xs) ≡ x + sum (take m xs) = sum_by-cons (λ y. y) x (take m xs) in
    let more_n : sum (x ∷ take n xs) ≡ x + sum (take n xs) = sum_by-cons (λ y. y) x (take n xs) in
    omega (arith, rest, more_m, more_n)

pub size_of_grows : (sizes : List ℕ) (a b c : ℕ) → b ≤ c → size_of sizes (a, b) ≤ size_of sizes (a, c)
size_of_grows sizes a b c le = sum_take_le (drop a sizes) (b - a) (c - a) (omega (arith, le))
