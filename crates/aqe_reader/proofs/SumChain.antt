-- What the loop that reads `sum` knows.
use Rattle.std.proofs.Common.{List, [], ◌∷◌, ◌++◌, ◌≡◌, ◌<◌, length, refl, sym, ap, subst, arith}
use Rattle.std.specs.Prelude.{Some, None}
use Rattle.std.proofs.lemmas.List.{append_assoc, append-nil}
use Rattle.aqe_trees.specs.declared.terminal.Terminal.{Terminal}
use Rattle.aqe_trees.specs.declared.expression.SumTree.{SumTree}
use Rattle.aqe_trees.specs.declared.expression.ProductTree.{ProductTree}
use Rattle.aqe_trees.specs.declared.expression.Sign.{Sign}
use Rattle.aqe_trees.specs.Shapes.{sum_tree}
use Rattle.aqe_trees.specs.Words.{sum_of}
use Rattle.aqe_trees.specs.Follow.{Stops}
use Rattle.aqe_trees.specs.Expressions.{IsSum, sum_of_products, IsSumRest, sum_end, sum_more, IsProduct}
use Rattle.aqe_trees.proofs.OneExpression.{sum_stop, at_sum_rest, sum_binds}
use Rattle.aqe_reader.specs.Reading.{Read, Refuses}

-- each chain of ts begins with what was read, and goes on with a chain of rest
pub record SumLeft (ts rest : List Terminal) (first : ProductTree) (items : List (Sign × ProductTree)) : Type 0 where
  pub more : (ys : List (Sign × ProductTree)) (us : List Terminal) → IsSumRest ys rest us → IsSum (sum_tree first (items ++ ys)) ts us
  pub back : (t : SumTree) (us : List Terminal) → IsSum t ts us → Stops 18 us → (ys : List (Sign × ProductTree)) × (t ≡ sum_tree first (items ++ ys)) × IsSumRest ys rest us
  pub shorter : length rest < length ts

first_back : {ts rest us : List Terminal} {first : ProductTree} {t : SumTree} → Read IsProduct 19 ts first rest → IsSum t ts us → Stops 18 us →
    (ys : List (Sign × ProductTree)) × (t ≡ sum_tree first ([] ++ ys)) × IsSumRest ys rest us
first_back r (sum_of_products {rest = ys} d q) s = let p = r.only _ _ d (sum_stop q s) in (ys, ap (λ x. sum_tree x ys) (sym p.0), at_sum_rest p.1 q)

pub sum_begins : {ts rest : List Terminal} {first : ProductTree} → Read IsProduct 19 ts first rest → SumLeft ts rest first []
sum_begins r = record {
  more = λ ys us d. sum_of_products r.found d;
  back = λ t us d s. first_back r d s;
  shorter = r.shorter;
}

next_back : {after left us : List Terminal} {t : Terminal} {op : Sign} {item : ProductTree} {ys : List (Sign × ProductTree)} → sum_of t ≡ Some op → Read IsProduct 19 after item left →
    IsSumRest ys (t ∷ after) us → Stops 18 us → (zs : List (Sign × ProductTree)) × (ys ≡ (op, item) ∷ zs) × IsSumRest zs left us
next_back {t = t} o r sum_end s = absurd (let b = sum_binds t _ o in omega arith)
next_back {op = op} {item = item} o r (sum_more {rest = zs} i d q) s = let p = r.only _ _ d (sum_stop q s) in (zs, cc, at_sum_rest p.1 q)

step_back : {ts rest after left us : List Terminal} {t : Terminal} {op : Sign} {first item : ProductTree} {items : List (Sign × ProductTree)} {tree : SumTree} → SumLeft ts rest first items → rest ≡ t ∷ after → sum_of t ≡ Some op →
    Read IsProduct 19 after item left → IsSum tree ts us → Stops 18 us →
    (zs : List (Sign × ProductTree)) × (tree ≡ sum_tree first ((items ++ (op, item) ∷ []) ++ zs)) × IsSumRest zs left us
step_back {us = us} {op = op} {first = first} {item = item} {items = items} l e o r d s =
    let b = l.back _ us d s in
    let n = next_back o r (subst (λ x. IsSumRest b.0 x us) e b.2) s in
    (n.0, rw (append_assoc items ((op, item) ∷ []) n.0, sym n.1) b.1, n.2)

pub sum_step : {ts rest after left : List Terminal} {t : Terminal} {op : Sign} {first item : ProductTree} {items : List (Sign × ProductTree)} → SumLeft ts rest first items → rest ≡ t ∷ after → sum_of t ≡ Some op →
    Read IsProduct 19 after item left → SumLeft ts left first (items ++ (op, item) ∷ [])
sum_step {ts = ts} {op = op} {first = first} {item = item} {items = items} l e o r = record {
  more = λ ys us d. rw (append_assoc items ((op, item) ∷ []) ys) (l.more ((op, item) ∷ ys) us (rw e (sum_more o r.found d)));
  back = λ t us d s. step_back l e o r d s;
  shorter = let a = l.shorter in let b = r.shorter in let c = ap length e in omega arith;
}

ended : {rest us : List Terminal} {ys : List (Sign × ProductTree)} → ((t : Terminal) (us : List Terminal) → rest ≡ t ∷ us → sum_of t ≡ None) → IsSumRest ys rest us → (ys ≡ []) × (rest ≡ us)
ended n sum_end = (refl, refl)
ended n (sum_more i d q) = absurd (let m = n _ _ refl in cc)

done_only : {ts rest ws : List Terminal} {first : ProductTree} {items : List (Sign × ProductTree)} {v : SumTree} → SumLeft ts rest first items → ((t : Terminal) (us : List Terminal) → rest ≡ t ∷ us → sum_of t ≡ None) →
    IsSum v ts ws → Stops 18 ws → (sum_tree first items ≡ v) × (rest ≡ ws)
done_only {first = first} {items = items} l n d s =
    let b = l.back _ _ d s in
    let m = ended n b.2 in
    (sym (rw (b.1, m.0, append-nil items) refl), m.1)

pub sum_done : {ts rest : List Terminal} {first : ProductTree} {items : List (Sign × ProductTree)} → SumLeft ts rest first items → ((t : Terminal) (us : List Terminal) → rest ≡ t ∷ us → sum_of t ≡ None) →
    Read IsSum 18 ts (sum_tree first items) rest
sum_done {ts = ts} {rest = rest} {first = first} {items = items} l n = record {
  found = subst (λ x. IsSum (sum_tree first x) ts rest) (append-nil items) (l.more [] rest sum_end);
  only = λ v ws d s. done_only l n d s;
  shorter = l.shorter;
}

none_first : {ts us : List Terminal} {t : SumTree} → Refuses IsProduct 19 ts → IsSum t ts us → Stops 18 us → ⊥
none_first n (sum_of_products d q) s = n _ _ d (sum_stop q s)

pub sum_refused : {ts : List Terminal} → Refuses IsProduct 19 ts → Refuses IsSum 18 ts
sum_refused n = λ t us d s. none_first n d s

none_next : {after us : List Terminal} {t : Terminal} {op : Sign} {ys : List (Sign × ProductTree)} → sum_of t ≡ Some op → Refuses IsProduct 19 after → IsSumRest ys (t ∷ after) us → Stops 18 us → ⊥
none_next {t = t} o n sum_end s = let b = sum_binds t _ o in omega arith
none_next o n (sum_more i d q) s = n _ _ d (sum_stop q s)

pub sum_broken : {ts rest after : List Terminal} {t : Terminal} {op : Sign} {first : ProductTree} {items : List (Sign × ProductTree)} → SumLeft ts rest first items → rest ≡ t ∷ after → sum_of t ≡ Some op →
    Refuses IsProduct 19 after → Refuses IsSum 18 ts
sum_broken l e o n = λ t us d s. let b = l.back t us d s in none_next o n (subst (λ x. IsSumRest b.0 x us) e b.2) s
