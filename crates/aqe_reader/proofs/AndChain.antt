-- What the loop that reads `and` knows.
use Rattle.std.proofs.Common.{List, [], ◌∷◌, ◌++◌, ◌≡◌, ◌<◌, length, refl, sym, ap, subst, arith}
use Rattle.std.proofs.lemmas.List.{append_assoc, append-nil}
use Rattle.aqe_trees.specs.declared.terminal.Key.TheVariants as k
use Rattle.aqe_trees.specs.declared.terminal.Terminal.{Terminal}
use Rattle.aqe_trees.specs.declared.terminal.Terminal.TheVariants.{Fixed}
use Rattle.aqe_trees.specs.declared.expression.AndTree.{AndTree}
use Rattle.aqe_trees.specs.declared.expression.NotTree.{NotTree}
use Rattle.aqe_trees.specs.Shapes.{and_tree}
use Rattle.aqe_trees.specs.Follow.{Stops}
use Rattle.aqe_trees.specs.Expressions.{IsAnd, and_of, IsAndRest, and_end, and_more, IsNot}
use Rattle.aqe_trees.proofs.OneExpression.{and_stop, at_and_rest}
use Rattle.aqe_reader.specs.Reading.{Read, Refuses}

-- each chain of ts begins with what was read, and goes on with a chain of rest
pub record AndLeft (ts rest : List Terminal) (first : NotTree) (items : List NotTree) : Type 0 where
  pub more : (ys : List NotTree) (us : List Terminal) → IsAndRest ys rest us → IsAnd (and_tree first (items ++ ys)) ts us
  pub back : (t : AndTree) (us : List Terminal) → IsAnd t ts us → Stops 15 us → (ys : List NotTree) × (t ≡ and_tree first (items ++ ys)) × IsAndRest ys rest us
  pub shorter : length rest < length ts

first_back : {ts rest us : List Terminal} {first : NotTree} {t : AndTree} → Read IsNot 16 ts first rest → IsAnd t ts us → Stops 15 us →
    (ys : List NotTree) × (t ≡ and_tree first ([] ++ ys)) × IsAndRest ys rest us
first_back r (and_of {rest = ys} d q) s = let p = r.only _ _ d (and_stop q s) in (ys, ap (λ x. and_tree x ys) (sym p.0), at_and_rest p.1 q)

pub and_begins : {ts rest : List Terminal} {first : NotTree} → Read IsNot 16 ts first rest → AndLeft ts rest first []
and_begins r = record {
  more = λ ys us d. and_of r.found d;
  back = λ t us d s. first_back r d s;
  shorter = r.shorter;
}

next_back : {after left us : List Terminal} {item : NotTree} {ys : List NotTree} → Read IsNot 16 after item left →
    IsAndRest ys (Fixed k.And ∷ after) us → Stops 15 us → (zs : List NotTree) × (ys ≡ item ∷ zs) × IsAndRest zs left us
next_back r and_end s = absurd (omega arith)
next_back {item = item} r (and_more {rest = zs} d q) s = let p = r.only _ _ d (and_stop q s) in (zs, ap (λ x. x ∷ zs) (sym p.0), at_and_rest p.1 q)

step_back : {ts rest after left us : List Terminal} {first item : NotTree} {items : List NotTree} {tree : AndTree} → AndLeft ts rest first items → rest ≡ Fixed k.And ∷ after →
    Read IsNot 16 after item left → IsAnd tree ts us → Stops 15 us →
    (zs : List NotTree) × (tree ≡ and_tree first ((items ++ item ∷ []) ++ zs)) × IsAndRest zs left us
step_back {us = us} {first = first} {item = item} {items = items} l e r d s =
    let b = l.back _ us d s in
    let n = next_back r (subst (λ x. IsAndRest b.0 x us) e b.2) s in
    (n.0, rw (append_assoc items (item ∷ []) n.0, sym n.1) b.1, n.2)

pub and_step : {ts rest after left : List Terminal} {first item : NotTree} {items : List NotTree} → AndLeft ts rest first items → rest ≡ Fixed k.And ∷ after →
    Read IsNot 16 after item left → AndLeft ts left first (items ++ item ∷ [])
and_step {ts = ts} {first = first} {item = item} {items = items} l e r = record {
  more = λ ys us d. rw (append_assoc items (item ∷ []) ys) (l.more (item ∷ ys) us (rw e (and_more r.found d)));
  back = λ t us d s. step_back l e r d s;
  shorter = let a = l.shorter in let b = r.shorter in let c = ap length e in omega arith;
}

ended : {rest us : List Terminal} {ys : List NotTree} → ((us : List Terminal) → rest ≡ Fixed k.And ∷ us → ⊥) → IsAndRest ys rest us → (ys ≡ []) × (rest ≡ us)
ended n and_end = (refl, refl)
ended n (and_more d q) = absurd (n _ refl)

done_only : {ts rest ws : List Terminal} {first : NotTree} {items : List NotTree} {v : AndTree} → AndLeft ts rest first items → ((us : List Terminal) → rest ≡ Fixed k.And ∷ us → ⊥) →
    IsAnd v ts ws → Stops 15 ws → (and_tree first items ≡ v) × (rest ≡ ws)
done_only {first = first} {items = items} l n d s =
    let b = l.back _ _ d s in
    let m = ended n b.2 in
    (sym (rw (b.1, m.0, append-nil items) refl), m.1)

pub and_done : {ts rest : List Terminal} {first : NotTree} {items : List NotTree} → AndLeft ts rest first items → ((us : List Terminal) → rest ≡ Fixed k.And ∷ us → ⊥) →
    Read IsAnd 15 ts (and_tree first items) rest
and_done {ts = ts} {rest = rest} {first = first} {items = items} l n = record {
  found = subst (λ x. IsAnd (and_tree first x) ts rest) (append-nil items) (l.more [] rest and_end);
  only = λ v ws d s. done_only l n d s;
  shorter = l.shorter;
}

none_first : {ts us : List Terminal} {t : AndTree} → Refuses IsNot 16 ts → IsAnd t ts us → Stops 15 us → ⊥
none_first n (and_of d q) s = n _ _ d (and_stop q s)

pub and_refused : {ts : List Terminal} → Refuses IsNot 16 ts → Refuses IsAnd 15 ts
and_refused n = λ t us d s. none_first n d s

none_next : {after us : List Terminal} {ys : List NotTree} → Refuses IsNot 16 after → IsAndRest ys (Fixed k.And ∷ after) us → Stops 15 us → ⊥
none_next n and_end s = omega arith
none_next n (and_more d q) s = n _ _ d (and_stop q s)

pub and_broken : {ts rest after : List Terminal} {first : NotTree} {items : List NotTree} → AndLeft ts rest first items → rest ≡ Fixed k.And ∷ after →
    Refuses IsNot 16 after → Refuses IsAnd 15 ts
and_broken l e n = λ t us d s. let b = l.back t us d s in none_next n (subst (λ x. IsAndRest b.0 x us) e b.2) s
