-- What the loop that reads a list knows.
use Rattle.std.proofs.Common.{List, [], ◌∷◌, ◌++◌, ◌≡◌, ◌<◌, length, refl, sym, ap, subst, arith}
use Rattle.std.proofs.lemmas.List.{append_assoc, append-nil}
use Rattle.aqe_trees.specs.declared.terminal.Key.TheVariants as k
use Rattle.aqe_trees.specs.declared.terminal.Terminal.{Terminal}
use Rattle.aqe_trees.specs.declared.terminal.Terminal.TheVariants.{Fixed}
use Rattle.aqe_trees.specs.declared.expression.OrTree.{OrTree}
use Rattle.aqe_trees.specs.Follow.{Stops}
use Rattle.aqe_trees.specs.Expressions.{IsOr, IsList, list_of, IsListRest, list_end, list_more}
use Rattle.aqe_trees.proofs.OneExpression.{list_stop, at_list_rest}
use Rattle.aqe_reader.specs.Reading.{Read, Refuses}

-- each list of ts begins with what was read, and goes on with commas of rest
pub record ListLeft (ts rest : List Terminal) (items : List OrTree) : Type 0 where
  pub more : (ys : List OrTree) (us : List Terminal) → IsListRest ys rest us → IsList (items ++ ys) ts us
  pub back : (t : List OrTree) (us : List Terminal) → IsList t ts us → Stops 9 us → (ys : List OrTree) × (t ≡ items ++ ys) × IsListRest ys rest us
  pub shorter : length rest < length ts

up : (us : List Terminal) → Stops 10 us → Stops 14 us
up us s = omega arith

first_back : {ts rest us : List Terminal} {first : OrTree} {t : List OrTree} → Read IsOr 14 ts first rest → IsList t ts us → Stops 9 us →
    (ys : List OrTree) × (t ≡ (first ∷ []) ++ ys) × IsListRest ys rest us
first_back r (list_of {rest = ys} d q) s = let p = r.only _ _ d (up _ (list_stop q s)) in (ys, cc, at_list_rest p.1 q)

pub list_begins : {ts rest : List Terminal} {first : OrTree} → Read IsOr 14 ts first rest → ListLeft ts rest (first ∷ [])
list_begins r = record {
  more = λ ys us d. list_of r.found d;
  back = λ t us d s. first_back r d s;
  shorter = r.shorter;
}

next_back : {after left us : List Terminal} {next : OrTree} {ys : List OrTree} → Read IsOr 14 after next left →
    IsListRest ys (Fixed k.Comma ∷ after) us → Stops 9 us → (zs : List OrTree) × (ys ≡ next ∷ zs) × IsListRest zs left us
next_back r list_end s = absurd (omega arith)
next_back r (list_more {rest = zs} d q) s = let p = r.only _ _ d (up _ (list_stop q s)) in (zs, cc, at_list_rest p.1 q)

step_back : {ts rest after left us : List Terminal} {next : OrTree} {items t : List OrTree} → ListLeft ts rest items → rest ≡ Fixed k.Comma ∷ after →
    Read IsOr 14 after next left → IsList t ts us → Stops 9 us → (zs : List OrTree) × (t ≡ (items ++ next ∷ []) ++ zs) × IsListRest zs left us
step_back {us = us} {next = next} {items = items} l e r d s =
    let b = l.back _ us d s in
    let n = next_back r (subst (λ x. IsListRest b.0 x us) e b.2) s in
    (n.0, rw (append_assoc items (next ∷ []) n.0, sym n.1) b.1, n.2)

pub list_step : {ts rest after left : List Terminal} {next : OrTree} {items : List OrTree} → ListLeft ts rest items → rest ≡ Fixed k.Comma ∷ after →
    Read IsOr 14 after next left → ListLeft ts left (items ++ next ∷ [])
list_step {next = next} {items = items} l e r = record {
  more = λ ys us d. rw (append_assoc items (next ∷ []) ys) (l.more (next ∷ ys) us (rw e (list_more r.found d)));
  back = λ t us d s. step_back l e r d s;
  shorter = let a = l.shorter in let b = r.shorter in let c = ap length e in omega arith;
}

ended : {rest us : List Terminal} {ys : List OrTree} → ((us : List Terminal) → rest ≡ Fixed k.Comma ∷ us → ⊥) → IsListRest ys rest us → (ys ≡ []) × (rest ≡ us)
ended n list_end = (refl, refl)
ended n (list_more d q) = absurd (n _ refl)

done_only : {ts rest ws : List Terminal} {items v : List OrTree} → ListLeft ts rest items → ((us : List Terminal) → rest ≡ Fixed k.Comma ∷ us → ⊥) →
    IsList v ts ws → Stops 9 ws → (items ≡ v) × (rest ≡ ws)
done_only {items = items} l n d s =
    let b = l.back _ _ d s in
    let m = ended n b.2 in
    (sym (rw (b.1, m.0, append-nil items) refl), m.1)

pub list_done : {ts rest : List Terminal} {items : List OrTree} → ListLeft ts rest items → ((us : List Terminal) → rest ≡ Fixed k.Comma ∷ us → ⊥) →
    Read IsList 9 ts items rest
list_done {ts = ts} {rest = rest} {items = items} l n = record {
  found = subst (λ x. IsList x ts rest) (append-nil items) (l.more [] rest list_end);
  only = λ v ws d s. done_only l n d s;
  shorter = l.shorter;
}

none_first : {ts us : List Terminal} {t : List OrTree} → Refuses IsOr 14 ts → IsList t ts us → Stops 9 us → ⊥
none_first n (list_of d q) s = n _ _ d (up _ (list_stop q s))

pub list_refused : {ts : List Terminal} → Refuses IsOr 14 ts → Refuses IsList 9 ts
list_refused n = λ t us d s. none_first n d s

none_next : {after us : List Terminal} {ys : List OrTree} → Refuses IsOr 14 after → IsListRest ys (Fixed k.Comma ∷ after) us → Stops 9 us → ⊥
none_next n list_end s = omega arith
none_next n (list_more d q) s = n _ _ d (up _ (list_stop q s))

pub list_broken : {ts rest after : List Terminal} {items : List OrTree} → ListLeft ts rest items → rest ≡ Fixed k.Comma ∷ after →
    Refuses IsOr 14 after → Refuses IsList 9 ts
list_broken l e n = λ t us d s. let b = l.back t us d s in none_next n (subst (λ x. IsListRest b.0 x us) e b.2) s
