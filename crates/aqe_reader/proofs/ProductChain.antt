-- What the loop that reads `product` knows.
use Rattle.std.proofs.Common.{List, [], ◌∷◌, ◌++◌, ◌≡◌, ◌<◌, length, refl, sym, ap, subst, arith}
use Rattle.std.specs.Prelude.{Some, None}
use Rattle.std.proofs.lemmas.List.{append_assoc, append-nil}
use Rattle.aqe_trees.specs.declared.terminal.Terminal.{Terminal}
use Rattle.aqe_trees.specs.declared.expression.ProductTree.{ProductTree}
use Rattle.aqe_trees.specs.declared.expression.SignTree.{SignTree}
use Rattle.aqe_trees.specs.declared.expression.ProductOp.{ProductOp}
use Rattle.aqe_trees.specs.Shapes.{product_tree}
use Rattle.aqe_trees.specs.Words.{product_of}
use Rattle.aqe_trees.specs.Follow.{Stops}
use Rattle.aqe_trees.specs.Expressions.{IsProduct, product_of_signs, IsProductRest, product_end, product_more, IsSign}
use Rattle.aqe_trees.proofs.OneExpression.{product_stop, at_product_rest, product_binds}
use Rattle.aqe_reader.specs.Reading.{Read, Refuses}

-- each chain of ts begins with what was read, and goes on with a chain of rest
pub record ProductLeft (ts rest : List Terminal) (first : SignTree) (items : List (ProductOp × SignTree)) : Type 0 where
  pub more : (ys : List (ProductOp × SignTree)) (us : List Terminal) → IsProductRest ys rest us → IsProduct (product_tree first (items ++ ys)) ts us
  pub back : (t : ProductTree) (us : List Terminal) → IsProduct t ts us → Stops 19 us → (ys : List (ProductOp × SignTree)) × (t ≡ product_tree first (items ++ ys)) × IsProductRest ys rest us
  pub shorter : length rest < length ts

first_back : {ts rest us : List Terminal} {first : SignTree} {t : ProductTree} → Read IsSign 20 ts first rest → IsProduct t ts us → Stops 19 us →
    (ys : List (ProductOp × SignTree)) × (t ≡ product_tree first ([] ++ ys)) × IsProductRest ys rest us
first_back r (product_of_signs {rest = ys} d q) s = let p = r.only _ _ d (product_stop q s) in (ys, ap (λ x. product_tree x ys) (sym p.0), at_product_rest p.1 q)

pub product_begins : {ts rest : List Terminal} {first : SignTree} → Read IsSign 20 ts first rest → ProductLeft ts rest first []
product_begins r = record {
  more = λ ys us d. product_of_signs r.found d;
  back = λ t us d s. first_back r d s;
  shorter = r.shorter;
}

next_back : {after left us : List Terminal} {t : Terminal} {op : ProductOp} {item : SignTree} {ys : List (ProductOp × SignTree)} → product_of t ≡ Some op → Read IsSign 20 after item left →
    IsProductRest ys (t ∷ after) us → Stops 19 us → (zs : List (ProductOp × SignTree)) × (ys ≡ (op, item) ∷ zs) × IsProductRest zs left us
next_back {t = t} o r product_end s = absurd (let b = product_binds t _ o in omega arith)
next_back {op = op} {item = item} o r (product_more {rest = zs} i d q) s = let p = r.only _ _ d (product_stop q s) in (zs, cc, at_product_rest p.1 q)

step_back : {ts rest after left us : List Terminal} {t : Terminal} {op : ProductOp} {first item : SignTree} {items : List (ProductOp × SignTree)} {tree : ProductTree} → ProductLeft ts rest first items → rest ≡ t ∷ after → product_of t ≡ Some op →
    Read IsSign 20 after item left → IsProduct tree ts us → Stops 19 us →
    (zs : List (ProductOp × SignTree)) × (tree ≡ product_tree first ((items ++ (op, item) ∷ []) ++ zs)) × IsProductRest zs left us
step_back {us = us} {op = op} {first = first} {item = item} {items = items} l e o r d s =
    let b = l.back _ us d s in
    let n = next_back o r (subst (λ x. IsProductRest b.0 x us) e b.2) s in
    (n.0, rw (append_assoc items ((op, item) ∷ []) n.0, sym n.1) b.1, n.2)

pub product_step : {ts rest after left : List Terminal} {t : Terminal} {op : ProductOp} {first item : SignTree} {items : List (ProductOp × SignTree)} → ProductLeft ts rest first items → rest ≡ t ∷ after → product_of t ≡ Some op →
    Read IsSign 20 after item left → ProductLeft ts left first (items ++ (op, item) ∷ [])
product_step {ts = ts} {op = op} {first = first} {item = item} {items = items} l e o r = record {
  more = λ ys us d. rw (append_assoc items ((op, item) ∷ []) ys) (l.more ((op, item) ∷ ys) us (rw e (product_more o r.found d)));
  back = λ t us d s. step_back l e o r d s;
  shorter = let a = l.shorter in let b = r.shorter in let c = ap length e in omega arith;
}

ended : {rest us : List Terminal} {ys : List (ProductOp × SignTree)} → ((t : Terminal) (us : List Terminal) → rest ≡ t ∷ us → product_of t ≡ None) → IsProductRest ys rest us → (ys ≡ []) × (rest ≡ us)
ended n product_end = (refl, refl)
ended n (product_more i d q) = absurd (let m = n _ _ refl in cc)

done_only : {ts rest ws : List Terminal} {first : SignTree} {items : List (ProductOp × SignTree)} {v : ProductTree} → ProductLeft ts rest first items → ((t : Terminal) (us : List Terminal) → rest ≡ t ∷ us → product_of t ≡ None) →
    IsProduct v ts ws → Stops 19 ws → (product_tree first items ≡ v) × (rest ≡ ws)
done_only {first = first} {items = items} l n d s =
    let b = l.back _ _ d s in
    let m = ended n b.2 in
    (sym (rw (b.1, m.0, append-nil items) refl), m.1)

pub product_done : {ts rest : List Terminal} {first : SignTree} {items : List (ProductOp × SignTree)} → ProductLeft ts rest first items → ((t : Terminal) (us : List Terminal) → rest ≡ t ∷ us → product_of t ≡ None) →
    Read IsProduct 19 ts (product_tree first items) rest
product_done {ts = ts} {rest = rest} {first = first} {items = items} l n = record {
  found = subst (λ x. IsProduct (product_tree first x) ts rest) (append-nil items) (l.more [] rest product_end);
  only = λ v ws d s. done_only l n d s;
  shorter = l.shorter;
}

none_first : {ts us : List Terminal} {t : ProductTree} → Refuses IsSign 20 ts → IsProduct t ts us → Stops 19 us → ⊥
none_first n (product_of_signs d q) s = n _ _ d (product_stop q s)

pub product_refused : {ts : List Terminal} → Refuses IsSign 20 ts → Refuses IsProduct 19 ts
product_refused n = λ t us d s. none_first n d s

none_next : {after us : List Terminal} {t : Terminal} {op : ProductOp} {ys : List (ProductOp × SignTree)} → product_of t ≡ Some op → Refuses IsSign 20 after → IsProductRest ys (t ∷ after) us → Stops 19 us → ⊥
none_next {t = t} o n product_end s = let b = product_binds t _ o in omega arith
none_next o n (product_more i d q) s = n _ _ d (product_stop q s)

pub product_broken : {ts rest after : List Terminal} {t : Terminal} {op : ProductOp} {first : SignTree} {items : List (ProductOp × SignTree)} → ProductLeft ts rest first items → rest ≡ t ∷ after → product_of t ≡ Some op →
    Refuses IsSign 20 after → Refuses IsProduct 19 ts
product_broken l e o n = λ t us d s. let b = l.back t us d s in none_next o n (subst (λ x. IsProductRest b.0 x us) e b.2) s
