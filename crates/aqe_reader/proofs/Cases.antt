-- Readers of the parts of CASE.
use Rattle.std.proofs.Common.{List, [], ◌∷◌, ◌++◌, ◌≡◌, ◌≤◌, ◌<◌, length, refl, sym, ap, subst, arith, lit<}
use Rattle.std.specs.Prelude.{Option, Some, None}
use Rattle.std.proofs.lemmas.List.{append_assoc, append-nil}
use Rattle.aqe_trees.specs.declared.terminal.Key.TheVariants as k
use Rattle.aqe_trees.specs.declared.terminal.Terminal.{Terminal}
use Rattle.aqe_trees.specs.declared.terminal.Terminal.TheVariants.{Fixed}
use Rattle.aqe_trees.specs.declared.expression.OrTree.{OrTree}
use Rattle.aqe_trees.specs.declared.expression.Arm.{Arm}
use Rattle.aqe_trees.specs.declared.expression.PrimaryTree.{PrimaryTree}
use Rattle.aqe_trees.specs.declared.expression.PrimaryTree.TheVariants as primary
use Rattle.aqe_trees.specs.Shapes.{arm}
use Rattle.aqe_trees.specs.Follow.{Stops}
use Rattle.aqe_trees.specs.Expressions.{IsOr, IsPrimary, case, case_of, IsArms, end, otherwise, when}
use Rattle.aqe_trees.proofs.OneExpression.{at_value, at_arms, arms_stop, or_starts}
use Rattle.aqe_reader.specs.Reading.{Read, Part, Taken, Refuses, Never}
use Rattle.aqe_reader.specs.Steps.{IsOperand, no_operand, an_operand, IsArm, arm_of, IsBranches, IsEnding, Keyed}

-- or THEN or
arm_only : {ts rest after left ws : List Terminal} {first gives : OrTree} {v : Arm} → Read IsOr 14 ts first rest → rest ≡ Fixed k.Then ∷ after →
    Read IsOr 14 after gives left → IsArm v ts ws → Stops 14 ws → (arm first gives ≡ v) × (left ≡ ws)
arm_only r e g (arm_of d f) s =
    let p = r.only _ _ d (lit< tt) in
    let m = g.only _ _ (at_value (cc) f) s in
    (cc, m.1)

pub arm_read : {ts rest after left : List Terminal} {first gives : OrTree} → Read IsOr 14 ts first rest → rest ≡ Fixed k.Then ∷ after →
    Read IsOr 14 after gives left → Read IsArm 14 ts (arm first gives) left
arm_read {ts = ts} {first = first} r e g = record {
  found = arm_of (subst (λ x. IsOr first ts x) e r.found) g.found;
  only = λ v ws d s. arm_only r e g d s;
  shorter = let a = r.shorter in let b = g.shorter in let c = ap length e in omega arith;
}

no_then : {ts rest ws : List Terminal} {first : OrTree} {v : Arm} → Read IsOr 14 ts first rest → ((us : List Terminal) → rest ≡ Fixed k.Then ∷ us → ⊥) →
    IsArm v ts ws → ⊥
no_then r n (arm_of d f) = n _ ((r.only _ _ d (lit< tt)).1)

pub arm_cut : {ts rest : List Terminal} {first : OrTree} → Read IsOr 14 ts first rest → ((us : List Terminal) → rest ≡ Fixed k.Then ∷ us → ⊥) → Refuses IsArm 14 ts
arm_cut r n = λ v ws d s. no_then r n d

no_gives : {ts rest after ws : List Terminal} {first : OrTree} {v : Arm} → Read IsOr 14 ts first rest → rest ≡ Fixed k.Then ∷ after →
    Refuses IsOr 14 after → IsArm v ts ws → Stops 14 ws → ⊥
no_gives r e n (arm_of d f) s = let p = r.only _ _ d (lit< tt) in n _ _ (at_value (cc) f) s

pub arm_empty : {ts rest after : List Terminal} {first : OrTree} → Read IsOr 14 ts first rest → rest ≡ Fixed k.Then ∷ after →
    Refuses IsOr 14 after → Refuses IsArm 14 ts
arm_empty r e n = λ v ws d s. no_gives r e n d s

no_when : {ts ws : List Terminal} {v : Arm} → Refuses IsOr 14 ts → IsArm v ts ws → ⊥
no_when n (arm_of d f) = n _ _ d (lit< tt)

pub arm_refused : {ts : List Terminal} → Refuses IsOr 14 ts → Refuses IsArm 14 ts
arm_refused n = λ v ws d s. no_when n d

-- [ELSE or] END
end_only : {left ws : List Terminal} {v : Option OrTree} → IsArms [] v (Fixed k.End ∷ left) ws → (None ≡ v) × (left ≡ ws)
end_only end = (refl, refl)

pub end_taken : {ts left : List Terminal} → ts ≡ Fixed k.End ∷ left → Taken IsEnding ts None left
end_taken {left = left} e = subst (λ x. Taken IsEnding x None left) (sym e)
    (record { found = end; only = λ v ws d. end_only d; shorter = omega arith })

else_only : {after rest left ws : List Terminal} {value : OrTree} {v : Option OrTree} → Read IsOr 14 after value rest → rest ≡ Fixed k.End ∷ left →
    IsArms [] v (Fixed k.Else ∷ after) ws → (Some value ≡ v) × (left ≡ ws)
else_only r e (otherwise d) = let p = r.only _ _ d (lit< tt) in (cc, cc)

pub else_taken : {ts after rest left : List Terminal} {value : OrTree} → ts ≡ Fixed k.Else ∷ after → Read IsOr 14 after value rest → rest ≡ Fixed k.End ∷ left →
    Taken IsEnding ts (Some value) left
else_taken {after = after} {left = left} {value = value} b r e = subst (λ x. Taken IsEnding x (Some value) left) (sym b)
    (record {
      found = otherwise (subst (λ x. IsOr value after x) e r.found);
      only = λ v ws d. else_only r e d;
      shorter = let a = r.shorter in let c = ap length e in omega arith;
    })

no_end : {after rest ws : List Terminal} {value : OrTree} {v : Option OrTree} → Read IsOr 14 after value rest → ((us : List Terminal) → rest ≡ Fixed k.End ∷ us → ⊥) →
    IsArms [] v (Fixed k.Else ∷ after) ws → ⊥
no_end r n (otherwise d) = n _ ((r.only _ _ d (lit< tt)).1)

pub else_cut : {ts after rest : List Terminal} {value : OrTree} → ts ≡ Fixed k.Else ∷ after → Read IsOr 14 after value rest →
    ((us : List Terminal) → rest ≡ Fixed k.End ∷ us → ⊥) → Never IsEnding ts
else_cut b r n = subst (λ x. Never IsEnding x) (sym b) (λ v ws d. no_end r n d)

no_else : {after ws : List Terminal} {v : Option OrTree} → Refuses IsOr 14 after → IsArms [] v (Fixed k.Else ∷ after) ws → ⊥
no_else n (otherwise d) = n _ _ d (lit< tt)

pub else_never : {ts after : List Terminal} → ts ≡ Fixed k.Else ∷ after → Refuses IsOr 14 after → Never IsEnding ts
else_never b n = subst (λ x. Never IsEnding x) (sym b) (λ v ws d. no_else n d)

-- the operand
absent_only : {us ws : List Terminal} {v : Option OrTree} → IsOperand v (Fixed k.When ∷ us) ws → (None ≡ v) × (Fixed k.When ∷ us ≡ ws)
absent_only no_operand = (refl, refl)
absent_only (an_operand d) = absurd (let o = or_starts d in omega arith)

pub absent_read : {ts us : List Terminal} → ts ≡ Fixed k.When ∷ us → Part IsOperand 14 ts None ts
absent_read e = subst (λ x. Part IsOperand 14 x None x) (sym e) (record { found = no_operand; only = λ v ws d s. absent_only d; within = omega arith })

operand_only : {ts left ws : List Terminal} {value : OrTree} {v : Option OrTree} → ((us : List Terminal) → ts ≡ Fixed k.When ∷ us → ⊥) →
    Read IsOr 14 ts value left → IsOperand v ts ws → Stops 14 ws → (Some value ≡ v) × (left ≡ ws)
operand_only n r no_operand s = absurd (n _ refl)
operand_only n r (an_operand d) s = let p = r.only _ _ d s in (ap Some p.0, p.1)

pub operand_read : {ts left : List Terminal} {value : OrTree} → ((us : List Terminal) → ts ≡ Fixed k.When ∷ us → ⊥) →
    Read IsOr 14 ts value left → Part IsOperand 14 ts (Some value) left
operand_read n r = record { found = an_operand r.found; only = λ v ws d s. operand_only n r d s; within = let a = r.shorter in omega arith }

operand_none : {ts ws : List Terminal} {v : Option OrTree} → ((us : List Terminal) → ts ≡ Fixed k.When ∷ us → ⊥) →
    Refuses IsOr 14 ts → IsOperand v ts ws → Stops 14 ws → ⊥
operand_none n m no_operand s = n _ refl
operand_none n m (an_operand d) s = m _ _ d s

pub operand_refused : {ts : List Terminal} → ((us : List Terminal) → ts ≡ Fixed k.When ∷ us → ⊥) → Refuses IsOr 14 ts → Refuses IsOperand 14 ts
operand_refused n m = λ v ws d s. operand_none n m d s

-- {WHEN or THEN or}
pub record ArmsLeft (ts rest : List Terminal) (arms : List Arm) : Type 0 where
  pub more : (ys : List Arm) (other : Option OrTree) (us : List Terminal) → IsArms ys other rest us → IsArms (arms ++ ys) other ts us
  pub back : (t : List Arm) (other : Option OrTree) (us : List Terminal) → IsArms t other ts us → (ys : List Arm) × (t ≡ arms ++ ys) × IsArms ys other rest us
  pub within : length rest ≤ length ts

arms_begin : {ts : List Terminal} → ArmsLeft ts ts []
arms_begin = record {
  more = λ ys other us d. d;
  back = λ t other us d. (t, refl, d);
  within = omega arith;
}

next_arm : {after left us : List Terminal} {first : Arm} {ys : List Arm} {other : Option OrTree} → Read IsArm 14 after first left →
    IsArms ys other (Fixed k.When ∷ after) us → (zs : List Arm) × (ys ≡ first ∷ zs) × IsArms zs other left us
next_arm r (when {rest = zs} d e q) = let p = r.only _ _ (arm_of d e) (arms_stop q) in (zs, cc, at_arms p.1 q)

step_back : {ts rest after left us : List Terminal} {first : Arm} {arms t : List Arm} {other : Option OrTree} → ArmsLeft ts rest arms → rest ≡ Fixed k.When ∷ after →
    Read IsArm 14 after first left → IsArms t other ts us → (zs : List Arm) × (t ≡ (arms ++ first ∷ []) ++ zs) × IsArms zs other left us
step_back {us = us} {first = first} {arms = arms} {other = other} l e r d =
    let b = l.back _ _ _ d in
    let n = next_arm r (subst (λ x. IsArms b.0 other x us) e b.2) in
    (n.0, rw (append_assoc arms (first ∷ []) n.0, sym n.1) b.1, n.2)

arm_front : {after left us : List Terminal} {first : Arm} {ys : List Arm} {other : Option OrTree} → IsArm first after left → IsArms ys other left us →
    IsArms (first ∷ ys) other (Fixed k.When ∷ after) us
arm_front (arm_of d e) q = when d e q

pub arms_step : {ts rest after left : List Terminal} {first : Arm} {arms : List Arm} → ArmsLeft ts rest arms → rest ≡ Fixed k.When ∷ after →
    Read IsArm 14 after first left → ArmsLeft ts left (arms ++ first ∷ [])
arms_step {first = first} {arms = arms} l e r = record {
  more = λ ys other us d. rw (append_assoc arms (first ∷ []) ys) (l.more (first ∷ ys) other us (rw e (arm_front r.found d)));
  back = λ t other us d. step_back l e r d;
  within = let a = l.within in let b = r.shorter in let c = ap length e in omega arith;
}

broken_back : {after us : List Terminal} {ys : List Arm} {other : Option OrTree} → Refuses IsArm 14 after → IsArms ys other (Fixed k.When ∷ after) us → ⊥
broken_back n (when d e q) = n _ _ (arm_of d e) (arms_stop q)

pub first_arm : {ts left : List Terminal} {first : Arm} {arms : List Arm} → Read IsArm 14 ts first left → arms ≡ [] ++ first ∷ [] →
    ArmsLeft (Fixed k.When ∷ ts) left arms
first_arm r e = rw e (arms_step arms_begin refl r)

no_first_arm : {after ws : List Terminal} {v : List Arm × Option OrTree} → Refuses IsArm 14 after → IsBranches v (Fixed k.When ∷ after) ws → ⊥
no_first_arm n d = broken_back n d

pub first_refused : {ts : List Terminal} → Refuses IsArm 14 ts → Never IsBranches (Fixed k.When ∷ ts)
first_refused n = λ v ws d. no_first_arm n d

pub behind_arm : {rest after : List Terminal} (ts left : List Terminal) → rest ≡ Fixed k.When ∷ after → length rest < length ts → length left < length after → length left < length ts
behind_arm ts left e a b = let c = ap length e in omega arith

armless : {rest us : List Terminal} {ys : List Arm} {other : Option OrTree} → ((us : List Terminal) → rest ≡ Fixed k.When ∷ us → ⊥) → IsArms ys other rest us →
    (ys ≡ []) × IsArms [] other rest us
armless n end = (refl, end)
armless n (otherwise d) = (refl, otherwise d)
armless n (when d e q) = absurd (n _ refl)

branches_only : {ts rest left ws : List Terminal} {arms t : List Arm} {other u : Option OrTree} → ArmsLeft ts rest arms → ((us : List Terminal) → rest ≡ Fixed k.When ∷ us → ⊥) →
    Taken IsEnding rest other left → IsArms t u ts ws → (arms ≡ t) × (other ≡ u) × (left ≡ ws)
branches_only {arms = arms} l n r d =
    let b = l.back _ _ _ d in
    let m = armless n b.2 in
    let p = r.only _ _ m.1 in
    (sym (rw (b.1, m.0, append-nil arms) refl), p.0, p.1)

both : {a c : List Arm} {b d : Option OrTree} → a ≡ c → b ≡ d → ◌≡◌ {A = List Arm × Option OrTree} (a, b) (c, d)
both e f = rw (e, f) refl

pub branches_taken : {ts rest left : List Terminal} {arms : List Arm} {other : Option OrTree} → ArmsLeft ts rest arms → ((us : List Terminal) → rest ≡ Fixed k.When ∷ us → ⊥) →
    Taken IsEnding rest other left → Taken IsBranches ts (arms, other) left
branches_taken {ts = ts} {left = left} {arms = arms} {other = other} l n r = record {
  found = subst (λ x. IsArms x other ts left) (append-nil arms) (l.more [] other left r.found);
  only = λ v ws d. let p = branches_only l n r d in (both p.0 p.1, p.2);
  shorter = let a = l.within in let b = r.shorter in omega arith;
}

pub branches_broken : {ts rest after : List Terminal} {arms : List Arm} → ArmsLeft ts rest arms → rest ≡ Fixed k.When ∷ after →
    Refuses IsArm 14 after → Never IsBranches ts
branches_broken l e n = λ v ws d. let b = l.back _ _ _ d in broken_back n (subst (λ x. IsArms b.0 v.1 x ws) e b.2)

pub branches_endless : {ts rest : List Terminal} {arms : List Arm} → ArmsLeft ts rest arms → ((us : List Terminal) → rest ≡ Fixed k.When ∷ us → ⊥) →
    Never IsEnding rest → Never IsBranches ts
branches_endless l n m = λ v ws d. let b = l.back _ _ _ d in m _ _ ((armless n b.2).1)

-- the whole
case_found : (arms : List Arm) {operand other : Option OrTree} {ts rest us : List Terminal} → IsOperand operand ts (Fixed k.When ∷ rest) →
    IsArms arms other (Fixed k.When ∷ rest) us → IsPrimary (primary.Case operand arms other) (Fixed k.Case ∷ ts) us
case_found [] o a = elim a [ ]
case_found (first ∷ more) no_operand a = case a
case_found (first ∷ more) (an_operand d) a = case_of d a

first_when : {first : Arm} {more : List Arm} {other : Option OrTree} {ts us : List Terminal} → IsArms (first ∷ more) other ts us → IsOperand None ts ts
first_when (when d e q) = no_operand

case_only : {arms : List Arm} {operand other : Option OrTree} {ts rest left ws : List Terminal} {v : PrimaryTree} → Part IsOperand 14 ts operand rest →
    Taken IsBranches rest (arms, other) left → IsPrimary v (Fixed k.Case ∷ ts) ws → (primary.Case operand arms other ≡ v) × (left ≡ ws)
case_only {arms = arms} {other = other} o b (case {first = first} {rest = more} {otherwise = u} a) =
    let p = o.only None _ (first_when a) (arms_stop a) in
    let q = b.only (first ∷ more, u) _ (at_arms p.1 a) in
    let e : arms ≡ first ∷ more = ap (λ (x : List Arm × Option OrTree). x.0) q.0 in
    let f : other ≡ u = ap (λ (x : List Arm × Option OrTree). x.1) q.0 in
    (cc, q.1)
case_only {arms = arms} {other = other} o b (case_of {operand = w} {first = first} {rest = more} {otherwise = u} d a) =
    let p = o.only (Some w) _ (an_operand d) (arms_stop a) in
    let q = b.only (first ∷ more, u) _ (at_arms p.1 a) in
    let e : arms ≡ first ∷ more = ap (λ (x : List Arm × Option OrTree). x.0) q.0 in
    let f : other ≡ u = ap (λ (x : List Arm × Option OrTree). x.1) q.0 in
    (cc, q.1)

case_at : {arms : List Arm} {operand other : Option OrTree} {ts after left : List Terminal} → Part IsOperand 14 ts operand (Fixed k.When ∷ after) →
    Taken IsBranches (Fixed k.When ∷ after) (arms, other) left → Part (Keyed k.Case) 20 ts (primary.Case operand arms other) left
case_at {arms = arms} o b = record {
  found = case_found arms o.found b.found;
  only = λ v ws d s. case_only o b d;
  within = let x = o.within in let y = b.shorter in omega arith;
}

pub case_read : {arms : List Arm} {operand other : Option OrTree} {ts rest after left : List Terminal} → Part IsOperand 14 ts operand rest →
    rest ≡ Fixed k.When ∷ after → Taken IsBranches (Fixed k.When ∷ after) (arms, other) left →
    Part (Keyed k.Case) 20 ts (primary.Case operand arms other) left
case_read {operand = operand} {ts = ts} o e b = case_at (subst (λ x. Part IsOperand 14 ts operand x) e o) b

never_case : {operand : Option OrTree} {ts rest ws : List Terminal} {v : PrimaryTree} → Part IsOperand 14 ts operand rest →
    ((first : Arm) (more : List Arm) (other : Option OrTree) (us : List Terminal) → IsArms (first ∷ more) other rest us → ⊥) → IsPrimary v (Fixed k.Case ∷ ts) ws → ⊥
never_case o n (case a) = n _ _ _ _ (at_arms ((o.only None _ (first_when a) (arms_stop a)).1) a)
never_case o n (case_of {operand = w} d a) = n _ _ _ _ (at_arms ((o.only (Some w) _ (an_operand d) (arms_stop a)).1) a)

no_when_first : {first : Arm} {more : List Arm} {other : Option OrTree} {ts us : List Terminal} → ((vs : List Terminal) → ts ≡ Fixed k.When ∷ vs → ⊥) →
    IsArms (first ∷ more) other ts us → ⊥
no_when_first n (when d e q) = n _ refl

pub case_armless : {operand : Option OrTree} {ts rest : List Terminal} → Part IsOperand 14 ts operand rest →
    ((us : List Terminal) → rest ≡ Fixed k.When ∷ us → ⊥) → Refuses (Keyed k.Case) 20 ts
case_armless o n = λ v ws d s. never_case o (λ first more u us a. no_when_first n a) d

pub case_endless : {operand : Option OrTree} {ts rest after : List Terminal} → Part IsOperand 14 ts operand rest → rest ≡ Fixed k.When ∷ after →
    Never IsBranches (Fixed k.When ∷ after) → Refuses (Keyed k.Case) 20 ts
case_endless o e n = λ v ws d s. never_case o (λ first more other us a. n (first ∷ more, other) us (at_arms (sym e) a)) d

no_case : {ts ws : List Terminal} {v : PrimaryTree} → Refuses IsOperand 14 ts → IsPrimary v (Fixed k.Case ∷ ts) ws → ⊥
no_case n (case a) = n None _ (first_when a) (arms_stop a)
no_case n (case_of {operand = w} d a) = n (Some w) _ (an_operand d) (arms_stop a)

pub case_refused : {ts : List Terminal} → Refuses IsOperand 14 ts → Refuses (Keyed k.Case) 20 ts
case_refused n = λ v ws d s. no_case n d
