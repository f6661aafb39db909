-- One more of the pieces that a limit narrows.
use Rattle.std.proofs.Common.{◌≡◌, ℕ, zero, suc, ◌+◌, ◌-◌, ◌<◌, List, [], ◌∷◌, ◌++◌, length, get_or, take, drop, ap, sym, subst, ◌∙◌, arith, append_assoc, append-nil, slice_set}
use Rattle.std.specs.Borrow.{Bor}
use Rattle.aqe_logical.specs.Answers.{Row}
use Rattle.aqe_operators.specs.Lent.{lent_rows}

-- what of so many rows goes for a list goes no more for the list behind it
pub drop_both : (n m : ℕ) (xs kept : List Row) → kept ≡ drop n xs → m ≡ n - length xs → (rest : List Row) → drop n (xs ++ rest) ≡ kept ++ drop m rest
drop_both n m xs kept is left rest = dropped n xs ∙ (λ i. sym is i ++ drop (sym left i) rest)
  where
    dropped : (k : ℕ) (ys : List Row) → drop k (ys ++ rest) ≡ drop k ys ++ drop (k - length ys) rest
    dropped zero ys = let none : 0 - length ys ≡ 0 = omega arith in ap (λ (j : ℕ). ys ++ drop j rest) (sym none)
    dropped (suc k) [] = let all : suc k - length {A = Row} [] ≡ suc k = omega arith in ap (λ (j : ℕ). drop j rest) (sym all)
    dropped (suc k) (y ∷ ys) = let less : suc k - length (y ∷ ys) ≡ k - length ys = omega arith in dropped k ys ∙ ap (λ (j : ℕ). drop k ys ++ drop j rest) (sym less)

pub take_both : (n m : ℕ) (xs kept : List Row) → kept ≡ take n xs → m ≡ n - length xs → (rest : List Row) → take n (xs ++ rest) ≡ kept ++ take m rest
take_both n m xs kept is left rest = taken n xs ∙ (λ i. sym is i ++ take (sym left i) rest)
  where
    taken : (k : ℕ) (ys : List Row) → take k (ys ++ rest) ≡ take k ys ++ take (k - length ys) rest
    taken zero ys = let none : 0 - length ys ≡ 0 = omega arith in ap (λ (j : ℕ). take j rest) (sym none)
    taken (suc k) [] = let all : suc k - length {A = Row} [] ≡ suc k = omega arith in ap (λ (j : ℕ). take j rest) (sym all)
    taken (suc k) (y ∷ ys) = let less : suc k - length (y ∷ ys) ≡ k - length ys = omega arith in ap (λ (l : List Row). y ∷ l) (taken k ys ∙ ap (λ (j : ℕ). take k ys ++ take j rest) (sym less))

-- the pieces walked and what is done to the rest are the same with one piece more
narrowed : (f : ℕ → List Row → List Row) (n m : ℕ) (pieces : List (Bor (List Row))) (i : ℕ) (old new : Bor (List Row))
    → i < length pieces → ((rest : List Row) → f n ((get_or pieces i old).now ++ rest) ≡ new.now ++ f m rest)
    → lent_rows (take i pieces) ++ f n (lent_rows (drop i pieces)) ≡ lent_rows (take (suc i) (slice_set pieces i new)) ++ f m (lent_rows (drop (suc i) (slice_set pieces i new)))
narrowed f n m [] i old new h step = absurd (omega (arith, h))
narrowed f n m (p ∷ pieces) zero old new h step =
    step (lent_rows pieces) ∙ ap (λ (l : List Row). l ++ f m (lent_rows pieces)) (sym (append-nil new.now))
narrowed f n m (p ∷ pieces) (suc i) old new h step =
    append_assoc p.now (lent_rows (take i pieces)) (f n (lent_rows (drop i pieces))) ∙
    (ap (λ (l : List Row). p.now ++ l) (narrowed f n m pieces i old new (omega (arith, h)) step) ∙
    sym (append_assoc p.now (lent_rows (take (suc i) (slice_set pieces i new))) (f m (lent_rows (drop (suc i) (slice_set pieces i new))))))

pub narrow_more : (f : ℕ → List Row → List Row) (n m : ℕ) (pieces : List (Bor (List Row))) (i : ℕ) (old new : Bor (List Row)) (whole : List Row)
    → i < length pieces → ((rest : List Row) → f n ((get_or pieces i old).now ++ rest) ≡ new.now ++ f m rest)
    → lent_rows (take i pieces) ++ f n (lent_rows (drop i pieces)) ≡ whole
    → lent_rows (take (i + 1) (slice_set pieces i new)) ++ f m (lent_rows (drop (i + 1) (slice_set pieces i new))) ≡ whole
narrow_more f n m pieces i old new whole h step before =
    let next : i + 1 ≡ suc i = omega arith in
    subst (λ (j : ℕ). lent_rows (take j (slice_set pieces i new)) ++ f m (lent_rows (drop j (slice_set pieces i new))) ≡ whole) (sym next)
    (sym (narrowed f n m pieces i old new h step) ∙ before)
