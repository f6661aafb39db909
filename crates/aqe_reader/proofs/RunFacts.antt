-- Runs of NOT and of signs, and what stands behind them.
use Rattle.std.proofs.Common.{ℕ, List, [], ◌∷◌, ◌++◌, ◌≡◌, ◌+◌, length, refl, sym, ap, subst, arith}
use Rattle.std.specs.Prelude.{Some, None, suc}
use Rattle.std.proofs.lemmas.List.{append_assoc, append-nil}
use Rattle.aqe_trees.specs.declared.terminal.Key.TheVariants as k
use Rattle.aqe_trees.specs.declared.terminal.Terminal.{Terminal}
use Rattle.aqe_trees.specs.declared.terminal.Terminal.TheVariants.{Fixed}
use Rattle.aqe_trees.specs.declared.expression.NotTree.{NotTree}
use Rattle.aqe_trees.specs.declared.expression.PredicateTree.{PredicateTree}
use Rattle.aqe_trees.specs.declared.expression.Sign.{Sign}
use Rattle.aqe_trees.specs.declared.expression.SignTree.{SignTree}
use Rattle.aqe_trees.specs.declared.expression.PrimaryTree.{PrimaryTree}
use Rattle.aqe_trees.specs.Shapes.{not_tree, sign_tree}
use Rattle.aqe_trees.specs.Words.{sign_at}
use Rattle.aqe_trees.specs.Follow.{Stops}
use Rattle.aqe_trees.specs.Expressions.{IsNot, not_of, IsNots, affirmed, negated, IsPredicate, IsSign, sign_of, IsSigns, unsigned, signed, IsPrimary}
use Rattle.aqe_trees.proofs.OneExpression.{no_not, primary_unsigned}
use Rattle.aqe_reader.specs.Reading.{Read, Refuses}
use Rattle.aqe_reader.specs.Steps.{NotsLeft, SignsLeft}

-- NOT
at_count : {m n : ℕ} {t : PredicateTree} {ts us : List Terminal} → m ≡ n → IsNots m t ts us → IsNots n t ts us
at_count {t = t} {ts = ts} {us = us} e d = subst (λ (x : ℕ). IsNots x t ts us) e d

pub nots_begin : {ts : List Terminal} → NotsLeft ts ts 0
nots_begin = record {
  more = λ n t us d. at_count (omega arith) d;
  back = λ n t us d. (n, omega arith, d);
  within = omega arith;
}

nots_back : {m : ℕ} {t : PredicateTree} {after us : List Terminal} → IsNots m t (Fixed k.Not ∷ after) us → (j : ℕ) × (m ≡ suc j) × IsNots j t after us
nots_back (affirmed d) = absurd (no_not d)
nots_back (negated {count = j} d) = (j, refl, d)

nots_step_back : {ts rest after us : List Terminal} {count n : ℕ} {t : PredicateTree} → NotsLeft ts rest count → rest ≡ Fixed k.Not ∷ after →
    IsNots n t ts us → (m : ℕ) × (n ≡ count + 1 + m) × IsNots m t after us
nots_step_back {us = us} {t = t} l e d =
    let b = l.back _ _ _ d in
    let c = nots_back (subst (λ x. IsNots b.0 t x us) e b.2) in
    (c.0, let p = b.1 in let q = c.1 in omega arith, c.2)

pub nots_step : {ts rest after : List Terminal} {count : ℕ} → NotsLeft ts rest count → rest ≡ Fixed k.Not ∷ after → NotsLeft ts after (count + 1)
nots_step l e = record {
  more = λ n t us d. at_count (omega arith) (l.more (suc n) t us (rw e (negated d)));
  back = λ n t us d. nots_step_back l e d;
  within = let a = l.within in let b = ap length e in omega arith;
}

not_zero : {m : ℕ} {t : PredicateTree} {rest us : List Terminal} → ((us : List Terminal) → rest ≡ Fixed k.Not ∷ us → ⊥) → IsNots m t rest us → (m ≡ 0) × IsPredicate t rest us
not_zero n (affirmed d) = (refl, d)
not_zero n (negated d) = absurd (n _ refl)

not_only : {ts rest left ws : List Terminal} {count : ℕ} {operand : PredicateTree} {v : NotTree} → NotsLeft ts rest count →
    ((us : List Terminal) → rest ≡ Fixed k.Not ∷ us → ⊥) → Read IsPredicate 16 rest operand left → IsNot v ts ws → Stops 16 ws →
    (not_tree count operand ≡ v) × (left ≡ ws)
not_only {count = count} l n r (not_of {count = m} d) s =
    let b = l.back _ _ _ d in
    let z = not_zero n b.2 in
    let p = r.only _ _ z.1 s in
    let same : count ≡ m = (let x = b.1 in let y = z.0 in omega arith) in
    (cc, p.1)

pub not_read : {ts rest left : List Terminal} {count : ℕ} {operand : PredicateTree} → NotsLeft ts rest count →
    ((us : List Terminal) → rest ≡ Fixed k.Not ∷ us → ⊥) → Read IsPredicate 16 rest operand left → Read IsNot 16 ts (not_tree count operand) left
not_read {left = left} {operand = operand} l n r = record {
  found = not_of (at_count (omega arith) (l.more 0 operand left (affirmed r.found)));
  only = λ v ws d s. not_only l n r d s;
  shorter = let a = l.within in let b = r.shorter in omega arith;
}

not_none : {ts rest ws : List Terminal} {count : ℕ} {v : NotTree} → NotsLeft ts rest count →
    ((us : List Terminal) → rest ≡ Fixed k.Not ∷ us → ⊥) → Refuses IsPredicate 16 rest → IsNot v ts ws → Stops 16 ws → ⊥
not_none l n m (not_of d) s =
    let b = l.back _ _ _ d in
    m _ _ ((not_zero n b.2).1) s

pub not_refused : {ts rest : List Terminal} {count : ℕ} → NotsLeft ts rest count →
    ((us : List Terminal) → rest ≡ Fixed k.Not ∷ us → ⊥) → Refuses IsPredicate 16 rest → Refuses IsNot 16 ts
not_refused l n m = λ v ws d s. not_none l n m d s

-- signs
pub signs_begin : {ts : List Terminal} → SignsLeft ts ts []
signs_begin = record {
  more = λ ops t us d. d;
  back = λ ops t us d. (ops, refl, d);
  within = omega arith;
}

signs_back : {ops : List Sign} {t : PrimaryTree} {first : Terminal} {op : Sign} {after us : List Terminal} → sign_at (first ∷ after) ≡ Some op →
    IsSigns ops t (first ∷ after) us → (more : List Sign) × (ops ≡ op ∷ more) × IsSigns more t after us
signs_back o (unsigned d) = absurd (let u = primary_unsigned d in cc)
signs_back o (signed {signs = more} i d) = (more, cc, d)

signs_step_back : {ts rest after us : List Terminal} {first : Terminal} {op : Sign} {signs ops : List Sign} {t : PrimaryTree} → SignsLeft ts rest signs →
    rest ≡ first ∷ after → sign_at rest ≡ Some op → IsSigns ops t ts us →
    (more : List Sign) × (ops ≡ (signs ++ op ∷ []) ++ more) × IsSigns more t after us
signs_step_back {us = us} {op = op} {signs = signs} {t = t} l e o d =
    let b = l.back _ _ _ d in
    let c = signs_back (subst (λ x. sign_at x ≡ Some op) e o) (subst (λ x. IsSigns b.0 t x us) e b.2) in
    (c.0, rw (append_assoc signs (op ∷ []) c.0, sym c.1) b.1, c.2)

pub signs_step : {ts rest after : List Terminal} {first : Terminal} {op : Sign} {signs : List Sign} → SignsLeft ts rest signs →
    rest ≡ first ∷ after → sign_at rest ≡ Some op → SignsLeft ts after (signs ++ op ∷ [])
signs_step {op = op} {signs = signs} l e o = record {
  more = λ ops t us d. rw (append_assoc signs (op ∷ []) ops) (l.more (op ∷ ops) t us (rw e (signed (subst (λ x. sign_at x ≡ Some op) e o) d)));
  back = λ ops t us d. signs_step_back l e o d;
  within = let a = l.within in let b = ap length e in omega arith;
}

signless : {ops : List Sign} {t : PrimaryTree} {rest us : List Terminal} → sign_at rest ≡ None → IsSigns ops t rest us → (ops ≡ []) × IsPrimary t rest us
signless n (unsigned d) = (refl, d)
signless n (signed o d) = absurd (cc)

sign_only : {ts rest left ws : List Terminal} {signs : List Sign} {operand : PrimaryTree} {v : SignTree} → SignsLeft ts rest signs →
    sign_at rest ≡ None → Read IsPrimary 20 rest operand left → IsSign v ts ws → Stops 20 ws → (sign_tree signs operand ≡ v) × (left ≡ ws)
sign_only {signs = signs} l n r (sign_of {signs = ops} d) s =
    let b = l.back _ _ _ d in
    let z = signless n b.2 in
    let p = r.only _ _ z.1 s in
    let same : signs ≡ ops = sym (rw (b.1, z.0, append-nil signs) refl) in
    (cc, p.1)

pub sign_read : {ts rest left : List Terminal} {signs : List Sign} {operand : PrimaryTree} → SignsLeft ts rest signs →
    sign_at rest ≡ None → Read IsPrimary 20 rest operand left → Read IsSign 20 ts (sign_tree signs operand) left
sign_read {ts = ts} {left = left} {signs = signs} {operand = operand} l n r = record {
  found = sign_of (subst (λ x. IsSigns x operand ts left) (append-nil signs) (l.more [] operand left (unsigned r.found)));
  only = λ v ws d s. sign_only l n r d s;
  shorter = let a = l.within in let b = r.shorter in omega arith;
}

sign_none : {ts rest ws : List Terminal} {signs : List Sign} {v : SignTree} → SignsLeft ts rest signs →
    sign_at rest ≡ None → Refuses IsPrimary 20 rest → IsSign v ts ws → Stops 20 ws → ⊥
sign_none l n m (sign_of d) s =
    let b = l.back _ _ _ d in
    m _ _ ((signless n b.2).1) s

pub sign_refused : {ts rest : List Terminal} {signs : List Sign} → SignsLeft ts rest signs →
    sign_at rest ≡ None → Refuses IsPrimary 20 rest → Refuses IsSign 20 ts
sign_refused l n m = λ v ws d s. sign_none l n m d s
