-- What the loop that reads `comparison` knows.
use Rattle.std.proofs.Common.{List, [], ◌∷◌, ◌++◌, ◌≡◌, ◌<◌, length, refl, sym, ap, subst, arith}
use Rattle.std.specs.Prelude.{Some, None}
use Rattle.std.proofs.lemmas.List.{append_assoc, append-nil}
use Rattle.aqe_trees.specs.declared.terminal.Terminal.{Terminal}
use Rattle.aqe_trees.specs.declared.expression.ComparisonTree.{ComparisonTree}
use Rattle.aqe_trees.specs.declared.expression.SumTree.{SumTree}
use Rattle.aqe_trees.specs.declared.expression.CompareOp.{CompareOp}
use Rattle.aqe_trees.specs.Shapes.{comparison_tree}
use Rattle.aqe_trees.specs.Words.{compare_of}
use Rattle.aqe_trees.specs.Follow.{Stops}
use Rattle.aqe_trees.specs.Expressions.{IsComparison, comparison_of, IsComparisonRest, comparison_end, comparison_more, IsSum}
use Rattle.aqe_trees.proofs.OneExpression.{comparison_stop, at_comparison_rest, compare_binds}
use Rattle.aqe_reader.specs.Reading.{Read, Refuses}

-- each chain of ts begins with what was read, and goes on with a chain of rest
pub record ComparisonLeft (ts rest : List Terminal) (first : SumTree) (items : List (CompareOp × SumTree)) : Type 0 where
  pub more : (ys : List (CompareOp × SumTree)) (us : List Terminal) → IsComparisonRest ys rest us → IsComparison (comparison_tree first (items ++ ys)) ts us
  pub back : (t : ComparisonTree) (us : List Terminal) → IsComparison t ts us → Stops 17 us → (ys : List (CompareOp × SumTree)) × (t ≡ comparison_tree first (items ++ ys)) × IsComparisonRest ys rest us
  pub shorter : length rest < length ts

first_back : {ts rest us : List Terminal} {first : SumTree} {t : ComparisonTree} → Read IsSum 18 ts first rest → IsComparison t ts us → Stops 17 us →
    (ys : List (CompareOp × SumTree)) × (t ≡ comparison_tree first ([] ++ ys)) × IsComparisonRest ys rest us
first_back r (comparison_of {rest = ys} d q) s = let p = r.only _ _ d (comparison_stop q s) in (ys, ap (λ x. comparison_tree x ys) (sym p.0), at_comparison_rest p.1 q)

pub comparison_begins : {ts rest : List Terminal} {first : SumTree} → Read IsSum 18 ts first rest → ComparisonLeft ts rest first []
comparison_begins r = record {
  more = λ ys us d. comparison_of r.found d;
  back = λ t us d s. first_back r d s;
  shorter = r.shorter;
}

next_back : {after left us : List Terminal} {t : Terminal} {op : CompareOp} {item : SumTree} {ys : List (CompareOp × SumTree)} → compare_of t ≡ Some op → Read IsSum 18 after item left →
    IsComparisonRest ys (t ∷ after) us → Stops 17 us → (zs : List (CompareOp × SumTree)) × (ys ≡ (op, item) ∷ zs) × IsComparisonRest zs left us
next_back {t = t} o r comparison_end s = absurd (let b = compare_binds t _ o in omega arith)
next_back {op = op} {item = item} o r (comparison_more {rest = zs} i d q) s = let p = r.only _ _ d (comparison_stop q s) in (zs, cc, at_comparison_rest p.1 q)

step_back : {ts rest after left us : List Terminal} {t : Terminal} {op : CompareOp} {first item : SumTree} {items : List (CompareOp × SumTree)} {tree : ComparisonTree} → ComparisonLeft ts rest first items → rest ≡ t ∷ after → compare_of t ≡ Some op →
    Read IsSum 18 after item left → IsComparison tree ts us → Stops 17 us →
    (zs : List (CompareOp × SumTree)) × (tree ≡ comparison_tree first ((items ++ (op, item) ∷ []) ++ zs)) × IsComparisonRest zs left us
step_back {us = us} {op = op} {first = first} {item = item} {items = items} l e o r d s =
    let b = l.back _ us d s in
    let n = next_back o r (subst (λ x. IsComparisonRest b.0 x us) e b.2) s in
    (n.0, rw (append_assoc items ((op, item) ∷ []) n.0, sym n.1) b.1, n.2)

pub comparison_step : {ts rest after left : List Terminal} {t : Terminal} {op : CompareOp} {first item : SumTree} {items : List (CompareOp × SumTree)} → ComparisonLeft ts rest first items → rest ≡ t ∷ after → compare_of t ≡ Some op →
    Read IsSum 18 after item left → ComparisonLeft ts left first (items ++ (op, item) ∷ [])
comparison_step {ts = ts} {op = op} {first = first} {item = item} {items = items} l e o r = record {
  more = λ ys us d. rw (append_assoc items ((op, item) ∷ []) ys) (l.more ((op, item) ∷ ys) us (rw e (comparison_more o r.found d)));
  back = λ t us d s. step_back l e o r d s;
  shorter = let a = l.shorter in let b = r.shorter in let c = ap length e in omega arith;
}

ended : {rest us : List Terminal} {ys : List (CompareOp × SumTree)} → ((t : Terminal) (us : List Terminal) → rest ≡ t ∷ us → compare_of t ≡ None) → IsComparisonRest ys rest us → (ys ≡ []) × (rest ≡ us)
ended n comparison_end = (refl, refl)
ended n (comparison_more i d q) = absurd (let m = n _ _ refl in cc)

done_only : {ts rest ws : List Terminal} {first : SumTree} {items : List (CompareOp × SumTree)} {v : ComparisonTree} → ComparisonLeft ts rest first items → ((t : Terminal) (us : List Terminal) → rest ≡ t ∷ us → compare_of t ≡ None) →
    IsComparison v ts ws → Stops 17 ws → (comparison_tree first items ≡ v) × (rest ≡ ws)
done_only {first = first} {items = items} l n d s =
    let b = l.back _ _ d s in
    let m = ended n b.2 in
    (sym (rw (b.1, m.0, append-nil items) refl), m.1)

pub comparison_done : {ts rest : List Terminal} {first : SumTree} {items : List (CompareOp × SumTree)} → ComparisonLeft ts rest first items → ((t : Terminal) (us : List Terminal) → rest ≡ t ∷ us → compare_of t ≡ None) →
    Read IsComparison 17 ts (comparison_tree first items) rest
comparison_done {ts = ts} {rest = rest} {first = first} {items = items} l n = record {
  found = subst (λ x. IsComparison (comparison_tree first x) ts rest) (append-nil items) (l.more [] rest comparison_end);
  only = λ v ws d s. done_only l n d s;
  shorter = l.shorter;
}

none_first : {ts us : List Terminal} {t : ComparisonTree} → Refuses IsSum 18 ts → IsComparison t ts us → Stops 17 us → ⊥
none_first n (comparison_of d q) s = n _ _ d (comparison_stop q s)

pub comparison_refused : {ts : List Terminal} → Refuses IsSum 18 ts → Refuses IsComparison 17 ts
comparison_refused n = λ t us d s. none_first n d s

none_next : {after us : List Terminal} {t : Terminal} {op : CompareOp} {ys : List (CompareOp × SumTree)} → compare_of t ≡ Some op → Refuses IsSum 18 after → IsComparisonRest ys (t ∷ after) us → Stops 17 us → ⊥
none_next {t = t} o n comparison_end s = let b = compare_binds t _ o in omega arith
none_next o n (comparison_more i d q) s = n _ _ d (comparison_stop q s)

pub comparison_broken : {ts rest after : List Terminal} {t : Terminal} {op : CompareOp} {first : SumTree} {items : List (CompareOp × SumTree)} → ComparisonLeft ts rest first items → rest ≡ t ∷ after → compare_of t ≡ Some op →
    Refuses IsSum 18 after → Refuses IsComparison 17 ts
comparison_broken l e o n = λ t us d s. let b = l.back t us d s in none_next o n (subst (λ x. IsComparisonRest b.0 x us) e b.2) s
