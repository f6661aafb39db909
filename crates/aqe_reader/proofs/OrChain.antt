-- What the loop that reads `or` knows.
use Rattle.std.proofs.Common.{List, [], ◌∷◌, ◌++◌, ◌≡◌, ◌<◌, length, refl, sym, ap, subst, arith}
use Rattle.std.proofs.lemmas.List.{append_assoc, append-nil}
use Rattle.aqe_trees.specs.declared.terminal.Key.TheVariants as k
use Rattle.aqe_trees.specs.declared.terminal.Terminal.{Terminal}
use Rattle.aqe_trees.specs.declared.terminal.Terminal.TheVariants.{Fixed}
use Rattle.aqe_trees.specs.declared.expression.OrTree.{OrTree}
use Rattle.aqe_trees.specs.declared.expression.AndTree.{AndTree}
use Rattle.aqe_trees.specs.Shapes.{or_tree}
use Rattle.aqe_trees.specs.Follow.{Stops}
use Rattle.aqe_trees.specs.Expressions.{IsOr, or_of, IsOrRest, or_end, or_more, IsAnd}
use Rattle.aqe_trees.proofs.OneExpression.{or_stop, at_or_rest}
use Rattle.aqe_reader.specs.Reading.{Read, Refuses}

-- each chain of ts begins with what was read, and goes on with a chain of rest
pub record OrLeft (ts rest : List Terminal) (first : AndTree) (items : List AndTree) : Type 0 where
  pub more : (ys : List AndTree) (us : List Terminal) → IsOrRest ys rest us → IsOr (or_tree first (items ++ ys)) ts us
  pub back : (t : OrTree) (us : List Terminal) → IsOr t ts us → Stops 14 us → (ys : List AndTree) × (t ≡ or_tree first (items ++ ys)) × IsOrRest ys rest us
  pub shorter : length rest < length ts

first_back : {ts rest us : List Terminal} {first : AndTree} {t : OrTree} → Read IsAnd 15 ts first rest → IsOr t ts us → Stops 14 us →
    (ys : List AndTree) × (t ≡ or_tree first ([] ++ ys)) × IsOrRest ys rest us
first_back r (or_of {rest = ys} d q) s = let p = r.only _ _ d (or_stop q s) in (ys, ap (λ x. or_tree x ys) (sym p.0), at_or_rest p.1 q)

pub or_begins : {ts rest : List Terminal} {first : AndTree} → Read IsAnd 15 ts first rest → OrLeft ts rest first []
or_begins r = record {
  more = λ ys us d. or_of r.found d;
  back = λ t us d s. first_back r d s;
  shorter = r.shorter;
}

next_back : {after left us : List Terminal} {item : AndTree} {ys : List AndTree} → Read IsAnd 15 after item left →
    IsOrRest ys (Fixed k.Or ∷ after) us → Stops 14 us → (zs : List AndTree) × (ys ≡ item ∷ zs) × IsOrRest zs left us
next_back r or_end s = absurd (omega arith)
next_back {item = item} r (or_more {rest = zs} d q) s = let p = r.only _ _ d (or_stop q s) in (zs, ap (λ x. x ∷ zs) (sym p.0), at_or_rest p.1 q)

step_back : {ts rest after left us : List Terminal} {first item : AndTree} {items : List AndTree} {tree : OrTree} → OrLeft ts rest first items → rest ≡ Fixed k.Or ∷ after →
    Read IsAnd 15 after item left → IsOr tree ts us → Stops 14 us →
    (zs : List AndTree) × (tree ≡ or_tree first ((items ++ item ∷ []) ++ zs)) × IsOrRest zs left us
step_back {us = us} {first = first} {item = item} {items = items} l e r d s =
    let b = l.back _ us d s in
    let n = next_back r (subst (λ x. IsOrRest b.0 x us) e b.2) s in
    (n.0, rw (append_assoc items (item ∷ []) n.0, sym n.1) b.1, n.2)

pub or_step : {ts rest after left : List Terminal} {first item : AndTree} {items : List AndTree} → OrLeft ts rest first items → rest ≡ Fixed k.Or ∷ after →
    Read IsAnd 15 after item left → OrLeft ts left first (items ++ item ∷ [])
or_step {ts = ts} {first = first} {item = item} {items = items} l e r = record {
  more = λ ys us d. rw (append_assoc items (item ∷ []) ys) (l.more (item ∷ ys) us (rw e (or_more r.found d)));
  back = λ t us d s. step_back l e r d s;
  shorter = let a = l.shorter in let b = r.shorter in let c = ap length e in omega arith;
}

ended : {rest us : List Terminal} {ys : List AndTree} → ((us : List Terminal) → rest ≡ Fixed k.Or ∷ us → ⊥) → IsOrRest ys rest us → (ys ≡ []) × (rest ≡ us)
ended n or_end = (refl, refl)
ended n (or_more d q) = absurd (n _ refl)

done_only : {ts rest ws : List Terminal} {first : AndTree} {items : List AndTree} {v : OrTree} → OrLeft ts rest first items → ((us : List Terminal) → rest ≡ Fixed k.Or ∷ us → ⊥) →
    IsOr v ts ws → Stops 14 ws → (or_tree first items ≡ v) × (rest ≡ ws)
done_only {first = first} {items = items} l n d s =
    let b = l.back _ _ d s in
    let m = ended n b.2 in
    (sym (rw (b.1, m.0, append-nil items) refl), m.1)

pub or_done : {ts rest : List Terminal} {first : AndTree} {items : List AndTree} → OrLeft ts rest first items → ((us : List Terminal) → rest ≡ Fixed k.Or ∷ us → ⊥) →
    Read IsOr 14 ts (or_tree first items) rest
or_done {ts = ts} {rest = rest} {first = first} {items = items} l n = record {
  found = subst (λ x. IsOr (or_tree first x) ts rest) (append-nil items) (l.more [] rest or_end);
  only = λ v ws d s. done_only l n d s;
  shorter = l.shorter;
}

none_first : {ts us : List Terminal} {t : OrTree} → Refuses IsAnd 15 ts → IsOr t ts us → Stops 14 us → ⊥
none_first n (or_of d q) s = n _ _ d (or_stop q s)

pub or_refused : {ts : List Terminal} → Refuses IsAnd 15 ts → Refuses IsOr 14 ts
or_refused n = λ t us d s. none_first n d s

none_next : {after us : List Terminal} {ys : List AndTree} → Refuses IsAnd 15 after → IsOrRest ys (Fixed k.Or ∷ after) us → Stops 14 us → ⊥
none_next n or_end s = omega arith
none_next n (or_more d q) s = n _ _ d (or_stop q s)

pub or_broken : {ts rest after : List Terminal} {first : AndTree} {items : List AndTree} → OrLeft ts rest first items → rest ≡ Fixed k.Or ∷ after →
    Refuses IsAnd 15 after → Refuses IsOr 14 ts
or_broken l e n = λ t us d s. let b = l.back t us d s in none_next n (subst (λ x. IsOrRest b.0 x us) e b.2) s
