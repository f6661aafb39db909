-- Readers of what a predicate asks of its value.
use Rattle.std.proofs.Common.{List, ◌∷◌, ◌≡◌, ◌≤◌, length, refl, sym, ap, subst, arith, lit<}
use Rattle.std.specs.Prelude.{Bool, true, false, Some, None}
use Rattle.aqe_trees.specs.declared.terminal.Key.{Key}
use Rattle.aqe_trees.specs.declared.terminal.Key.TheVariants as k
use Rattle.aqe_trees.specs.declared.terminal.Terminal.{Terminal}
use Rattle.aqe_trees.specs.declared.terminal.Terminal.TheVariants.{Fixed}
use Rattle.aqe_trees.specs.declared.expression.OrTree.{OrTree}
use Rattle.aqe_trees.specs.declared.expression.Truth.{Truth}
use Rattle.aqe_trees.specs.declared.expression.ComparisonTree.{ComparisonTree}
use Rattle.aqe_trees.specs.declared.expression.PredicateTree.{PredicateTree}
use Rattle.aqe_trees.specs.declared.expression.Test.{Test}
use Rattle.aqe_trees.specs.declared.expression.Test.TheVariants as test
use Rattle.aqe_trees.specs.Shapes.{predicate_tree}
use Rattle.aqe_trees.specs.Words.{truth_of}
use Rattle.aqe_trees.specs.Follow.{binds_at, Stops}
use Rattle.aqe_trees.specs.Expressions.{IsPredicate, predicate_of, IsTest, plain, between, not_between, one_of, not_one_of, like, not_like, is_truth, is_not_truth, IsList, IsComparison}
use Rattle.aqe_trees.proofs.OneExpression.{test_stop, at_test, at_comparison}
use Rattle.aqe_reader.specs.Reading.{Read, Part, Refuses}
use Rattle.aqe_reader.specs.Steps.{told, Told, Asked}

-- NOT
pub told_is : {ts : List Terminal} (b : Bool) (rest : List Terminal) → Told ts b rest → ts ≡ told b rest
told_is true rest e = e
told_is false rest e = e.0

pub told_within : (b : Bool) (ts rest : List Terminal) → Told ts b rest → length rest ≤ length ts
told_within true ts rest e = let a = ap length e in omega arith
told_within false ts rest e = let a = ap length e.0 in omega arith

-- a test behind [NOT] and its first word
pub told_part : {ts rest after us : List Terminal} {key : Key} {t : Test} (b : Bool) → Told ts b rest → rest ≡ Fixed key ∷ after →
    Read (Asked b key) 16 after t us → Part IsTest 16 ts t us
told_part {ts = ts} {us = us} {t = t} b e f r =
    let h : ts ≡ told b (Fixed _ ∷ _) = subst (λ x. ts ≡ told b x) f (told_is b _ e) in
    record {
      found = subst (λ x. IsTest t x us) (sym h) r.found;
      only = λ v ws d s. r.only v ws (subst (λ x. IsTest v x ws) h d) s;
      within = let x = told_within b _ _ e in let y = ap length f in let z = r.shorter in omega arith;
    }

pub told_refused : {ts rest after : List Terminal} {key : Key} (b : Bool) → Told ts b rest → rest ≡ Fixed key ∷ after →
    Refuses (Asked b key) 16 after → Refuses IsTest 16 ts
told_refused {ts = ts} b e f n =
    let h : ts ≡ told b (Fixed _ ∷ _) = subst (λ x. ts ≡ told b x) f (told_is b _ e) in
    λ v ws d s. n v ws (subst (λ x. IsTest v x ws) h d) s

-- BETWEEN
between_only : (b : Bool) {ts rest after left ws : List Terminal} {low high : ComparisonTree} {v : Test} → Read IsComparison 17 ts low rest → rest ≡ Fixed k.And ∷ after →
    Read IsComparison 17 after high left → IsTest v (told b (Fixed k.Between ∷ ts)) ws → Stops 16 ws → (test.Between b low high ≡ v) × (left ≡ ws)
between_only false r e g plain s = absurd (omega arith)
between_only false r e g (between d f) s =
    let p = r.only _ _ d (lit< tt) in
    let m = g.only _ _ (at_comparison (cc) f) (omega arith) in
    (cc, m.1)
between_only true r e g plain s = absurd (omega arith)
between_only true r e g (not_between d f) s =
    let p = r.only _ _ d (lit< tt) in
    let m = g.only _ _ (at_comparison (cc) f) (omega arith) in
    (cc, m.1)

between_found : (b : Bool) {ts after left : List Terminal} {low high : ComparisonTree} → IsComparison low ts (Fixed k.And ∷ after) →
    IsComparison high after left → IsTest (test.Between b low high) (told b (Fixed k.Between ∷ ts)) left
between_found false d f = between d f
between_found true d f = not_between d f

pub between_read : (b : Bool) {ts rest after left : List Terminal} {low high : ComparisonTree} → Read IsComparison 17 ts low rest → rest ≡ Fixed k.And ∷ after →
    Read IsComparison 17 after high left → Read (Asked b k.Between) 16 ts (test.Between b low high) left
between_read b {ts = ts} {low = low} r e g = record {
  found = between_found b (subst (λ x. IsComparison low ts x) e r.found) g.found;
  only = λ v ws d s. between_only b r e g d s;
  shorter = let x = r.shorter in let y = g.shorter in let z = ap length e in omega arith;
}

no_and : (b : Bool) {ts rest ws : List Terminal} {low : ComparisonTree} {v : Test} → Read IsComparison 17 ts low rest → ((us : List Terminal) → rest ≡ Fixed k.And ∷ us → ⊥) →
    IsTest v (told b (Fixed k.Between ∷ ts)) ws → Stops 16 ws → ⊥
no_and false r n plain s = omega arith
no_and false r n (between d f) s = n _ ((r.only _ _ d (lit< tt)).1)
no_and true r n plain s = omega arith
no_and true r n (not_between d f) s = n _ ((r.only _ _ d (lit< tt)).1)

pub between_cut : (b : Bool) {ts rest : List Terminal} {low : ComparisonTree} → Read IsComparison 17 ts low rest → ((us : List Terminal) → rest ≡ Fixed k.And ∷ us → ⊥) →
    Refuses (Asked b k.Between) 16 ts
between_cut b r n = λ v ws d s. no_and b r n d s

no_high : (b : Bool) {ts rest after ws : List Terminal} {low : ComparisonTree} {v : Test} → Read IsComparison 17 ts low rest → rest ≡ Fixed k.And ∷ after →
    Refuses IsComparison 17 after → IsTest v (told b (Fixed k.Between ∷ ts)) ws → Stops 16 ws → ⊥
no_high false r e n plain s = omega arith
no_high false r e n (between d f) s = let p = r.only _ _ d (lit< tt) in n _ _ (at_comparison (cc) f) (omega arith)
no_high true r e n plain s = omega arith
no_high true r e n (not_between d f) s = let p = r.only _ _ d (lit< tt) in n _ _ (at_comparison (cc) f) (omega arith)

pub between_high : (b : Bool) {ts rest after : List Terminal} {low : ComparisonTree} → Read IsComparison 17 ts low rest → rest ≡ Fixed k.And ∷ after →
    Refuses IsComparison 17 after → Refuses (Asked b k.Between) 16 ts
between_high b r e n = λ v ws d s. no_high b r e n d s

no_low : (b : Bool) {ts ws : List Terminal} {v : Test} → Refuses IsComparison 17 ts → IsTest v (told b (Fixed k.Between ∷ ts)) ws → Stops 16 ws → ⊥
no_low false n plain s = omega arith
no_low false n (between d f) s = n _ _ d (lit< tt)
no_low true n plain s = omega arith
no_low true n (not_between d f) s = n _ _ d (lit< tt)

pub between_low : (b : Bool) {ts : List Terminal} → Refuses IsComparison 17 ts → Refuses (Asked b k.Between) 16 ts
between_low b n = λ v ws d s. no_low b n d s

-- IN
one_of_only : (b : Bool) {inside rest left ws : List Terminal} {items : List OrTree} {v : Test} → Read IsList 9 inside items rest → rest ≡ Fixed k.Close ∷ left →
    IsTest v (told b (Fixed k.In ∷ Fixed k.Open ∷ inside)) ws → Stops 16 ws → (test.OneOf b items ≡ v) × (left ≡ ws)
one_of_only false r e plain s = absurd (omega arith)
one_of_only false r e (one_of d) s = let p = r.only _ _ d (lit< tt) in (cc, cc)
one_of_only true r e plain s = absurd (omega arith)
one_of_only true r e (not_one_of d) s = let p = r.only _ _ d (lit< tt) in (cc, cc)

one_of_found : (b : Bool) {inside left : List Terminal} {items : List OrTree} → IsList items inside (Fixed k.Close ∷ left) →
    IsTest (test.OneOf b items) (told b (Fixed k.In ∷ Fixed k.Open ∷ inside)) left
one_of_found false d = one_of d
one_of_found true d = not_one_of d

pub one_of_read : (b : Bool) {ts inside rest left : List Terminal} {items : List OrTree} → ts ≡ Fixed k.Open ∷ inside → Read IsList 9 inside items rest →
    rest ≡ Fixed k.Close ∷ left → Read (Asked b k.In) 16 ts (test.OneOf b items) left
one_of_read b {inside = inside} {left = left} {items = items} o r e =
    subst (λ x. Read (Asked b k.In) 16 x (test.OneOf b items) left) (sym o) (record {
      found = one_of_found b (subst (λ x. IsList items inside x) e r.found);
      only = λ v ws d s. one_of_only b r e d s;
      shorter = let x = r.shorter in let z = ap length e in omega arith;
    })

no_close : (b : Bool) {inside rest ws : List Terminal} {items : List OrTree} {v : Test} → Read IsList 9 inside items rest → ((us : List Terminal) → rest ≡ Fixed k.Close ∷ us → ⊥) →
    IsTest v (told b (Fixed k.In ∷ Fixed k.Open ∷ inside)) ws → Stops 16 ws → ⊥
no_close false r n plain s = omega arith
no_close false r n (one_of d) s = n _ ((r.only _ _ d (lit< tt)).1)
no_close true r n plain s = omega arith
no_close true r n (not_one_of d) s = n _ ((r.only _ _ d (lit< tt)).1)

pub one_of_unclosed : (b : Bool) {ts inside rest : List Terminal} {items : List OrTree} → ts ≡ Fixed k.Open ∷ inside → Read IsList 9 inside items rest →
    ((us : List Terminal) → rest ≡ Fixed k.Close ∷ us → ⊥) → Refuses (Asked b k.In) 16 ts
one_of_unclosed b o r n = subst (λ x. Refuses (Asked b k.In) 16 x) (sym o) (λ v ws d s. no_close b r n d s)

no_items : (b : Bool) {inside ws : List Terminal} {v : Test} → Refuses IsList 9 inside → IsTest v (told b (Fixed k.In ∷ Fixed k.Open ∷ inside)) ws → Stops 16 ws → ⊥
no_items false n plain s = omega arith
no_items false n (one_of d) s = n _ _ d (lit< tt)
no_items true n plain s = omega arith
no_items true n (not_one_of d) s = n _ _ d (lit< tt)

pub one_of_empty : (b : Bool) {ts inside : List Terminal} → ts ≡ Fixed k.Open ∷ inside → Refuses IsList 9 inside →
    Refuses (Asked b k.In) 16 ts
one_of_empty b o n = subst (λ x. Refuses (Asked b k.In) 16 x) (sym o) (λ v ws d s. no_items b n d s)

no_open : (b : Bool) {ts ws : List Terminal} {v : Test} → ((us : List Terminal) → ts ≡ Fixed k.Open ∷ us → ⊥) →
    IsTest v (told b (Fixed k.In ∷ ts)) ws → Stops 16 ws → ⊥
no_open false n plain s = omega arith
no_open false n (one_of d) s = n _ refl
no_open true n plain s = omega arith
no_open true n (not_one_of d) s = n _ refl

pub one_of_unopened : (b : Bool) {ts : List Terminal} → ((us : List Terminal) → ts ≡ Fixed k.Open ∷ us → ⊥) →
    Refuses (Asked b k.In) 16 ts
one_of_unopened b n = λ v ws d s. no_open b n d s

-- LIKE
like_only : (b : Bool) {ts left ws : List Terminal} {pattern : ComparisonTree} {v : Test} → Read IsComparison 17 ts pattern left →
    IsTest v (told b (Fixed k.Like ∷ ts)) ws → Stops 16 ws → (test.Like b pattern ≡ v) × (left ≡ ws)
like_only false r plain s = absurd (omega arith)
like_only false r (like d) s = let p = r.only _ _ d (omega arith) in (cc, p.1)
like_only true r plain s = absurd (omega arith)
like_only true r (not_like d) s = let p = r.only _ _ d (omega arith) in (cc, p.1)

like_found : (b : Bool) {ts left : List Terminal} {pattern : ComparisonTree} → IsComparison pattern ts left → IsTest (test.Like b pattern) (told b (Fixed k.Like ∷ ts)) left
like_found false d = like d
like_found true d = not_like d

pub like_read : (b : Bool) {ts left : List Terminal} {pattern : ComparisonTree} → Read IsComparison 17 ts pattern left →
    Read (Asked b k.Like) 16 ts (test.Like b pattern) left
like_read b r = record { found = like_found b r.found; only = λ v ws d s. like_only b r d s; shorter = r.shorter }

no_pattern : (b : Bool) {ts ws : List Terminal} {v : Test} → Refuses IsComparison 17 ts → IsTest v (told b (Fixed k.Like ∷ ts)) ws → Stops 16 ws → ⊥
no_pattern false n plain s = omega arith
no_pattern false n (like d) s = n _ _ d (omega arith)
no_pattern true n plain s = omega arith
no_pattern true n (not_like d) s = n _ _ d (omega arith)

pub like_refused : (b : Bool) {ts : List Terminal} → Refuses IsComparison 17 ts → Refuses (Asked b k.Like) 16 ts
like_refused b n = λ v ws d s. no_pattern b n d s

-- IS
is_only : (b : Bool) (t : Terminal) {left ws : List Terminal} {truth : Truth} {v : Test} → truth_of t ≡ Some truth →
    IsTest v (Fixed k.Is ∷ told b (t ∷ left)) ws → Stops 16 ws → (test.Is b truth ≡ v) × (left ≡ ws)
is_only false t o plain s = absurd (omega arith)
is_only false t o (is_truth i) s = (cc, refl)
is_only false t o (is_not_truth i) s = absurd (cc)
is_only true t o plain s = absurd (omega arith)
is_only true t o (is_truth i) s = absurd (cc)
is_only true t o (is_not_truth i) s = (cc, refl)

is_found : (b : Bool) (t : Terminal) {left : List Terminal} {truth : Truth} → truth_of t ≡ Some truth → IsTest (test.Is b truth) (Fixed k.Is ∷ told b (t ∷ left)) left
is_found false t o = is_truth o
is_found true t o = is_not_truth o

pub is_read : (b : Bool) {ts rest left : List Terminal} {t : Terminal} {truth : Truth} → Told ts b rest → rest ≡ t ∷ left → truth_of t ≡ Some truth →
    Read (Asked false k.Is) 16 ts (test.Is b truth) left
is_read b {ts = ts} {left = left} {truth = truth} e f o =
    let h : ts ≡ told b (_ ∷ left) = subst (λ x. ts ≡ told b x) f (told_is b _ e) in
    record {
      found = subst (λ x. IsTest (test.Is b truth) (Fixed k.Is ∷ x) left) (sym h) (is_found b _ o);
      only = λ v ws d s. is_only b _ o (subst (λ x. IsTest v (Fixed k.Is ∷ x) ws) h d) s;
      shorter = let x = told_within b _ _ e in let y = ap length f in omega arith;
    }

no_truth : (b : Bool) {ts rest ws : List Terminal} {v : Test} → Told ts b rest → ((t : Terminal) (us : List Terminal) → rest ≡ t ∷ us → truth_of t ≡ None) →
    IsTest v (Fixed k.Is ∷ ts) ws → Stops 16 ws → ⊥
no_truth b e n plain s = omega arith
no_truth false e n (is_truth {t = t} {us = us} i) s = let m : truth_of t ≡ None = n t us (sym e.0) in cc
no_truth true e n (is_truth i) s = absurd (cc)
no_truth false e n (is_not_truth i) s = e.1 _ refl
no_truth true e n (is_not_truth {t = t} {us = us} i) s = let m : truth_of t ≡ None = n t us (cc) in cc

pub is_refused : (b : Bool) {ts rest : List Terminal} → Told ts b rest → ((t : Terminal) (us : List Terminal) → rest ≡ t ∷ us → truth_of t ≡ None) →
    Refuses (Asked false k.Is) 16 ts
is_refused b e n = λ v ws d s. no_truth b e n d s

-- no test
plain_only : (b : Bool) {ts rest ws : List Terminal} {v : Test} → Told ts b rest →
    ((us : List Terminal) → rest ≡ Fixed k.Between ∷ us → ⊥) → ((us : List Terminal) → rest ≡ Fixed k.In ∷ us → ⊥) →
    ((us : List Terminal) → rest ≡ Fixed k.Like ∷ us → ⊥) → ((us : List Terminal) → ts ≡ Fixed k.Is ∷ us → ⊥) →
    IsTest v ts ws → (test.Plain ≡ v) × (ts ≡ ws)
plain_only b e n m l i plain = (refl, refl)
plain_only false e n m l i (between d f) = absurd (n _ (sym e.0))
plain_only true e n m l i (between d f) = absurd (cc)
plain_only false e n m l i (not_between d f) = absurd (e.1 _ refl)
plain_only true e n m l i (not_between {ts = xs} d f) = absurd (n xs (cc))
plain_only false e n m l i (one_of d) = absurd (m _ (sym e.0))
plain_only true e n m l i (one_of d) = absurd (cc)
plain_only false e n m l i (not_one_of d) = absurd (e.1 _ refl)
plain_only true e n m l i (not_one_of {ts = xs} d) = absurd (m (Fixed k.Open ∷ xs) (cc))
plain_only false e n m l i (like d) = absurd (l _ (sym e.0))
plain_only true e n m l i (like d) = absurd (cc)
plain_only false e n m l i (not_like d) = absurd (e.1 _ refl)
plain_only true e n m l i (not_like {ts = xs} d) = absurd (l xs (cc))
plain_only b e n m l i (is_truth o) = absurd (i _ refl)
plain_only b e n m l i (is_not_truth o) = absurd (i _ refl)

pub plain_read : (b : Bool) {ts rest : List Terminal} → Told ts b rest →
    ((us : List Terminal) → rest ≡ Fixed k.Between ∷ us → ⊥) → ((us : List Terminal) → rest ≡ Fixed k.In ∷ us → ⊥) →
    ((us : List Terminal) → rest ≡ Fixed k.Like ∷ us → ⊥) → ((us : List Terminal) → ts ≡ Fixed k.Is ∷ us → ⊥) → Part IsTest 16 ts test.Plain ts
plain_read b e n m l i = record { found = plain; only = λ v ws d s. plain_only b e n m l i d; within = omega arith }

-- NOT, and no test behind it
no_negated : {ts rest ws : List Terminal} {v : Test} → ts ≡ Fixed k.Not ∷ rest →
    ((us : List Terminal) → rest ≡ Fixed k.Between ∷ us → ⊥) → ((us : List Terminal) → rest ≡ Fixed k.In ∷ us → ⊥) →
    ((us : List Terminal) → rest ≡ Fixed k.Like ∷ us → ⊥) → IsTest v ts ws → Stops 16 ws → ⊥
no_negated e n m l plain s = let b = ap binds_at e in omega arith
no_negated e n m l (between d f) s = absurd (cc)
no_negated e n m l (not_between {ts = xs} d f) s = absurd (n xs (cc))
no_negated e n m l (one_of d) s = absurd (cc)
no_negated e n m l (not_one_of {ts = xs} d) s = absurd (m (Fixed k.Open ∷ xs) (cc))
no_negated e n m l (like d) s = absurd (cc)
no_negated e n m l (not_like {ts = xs} d) s = absurd (l xs (cc))
no_negated e n m l (is_truth o) s = absurd (cc)
no_negated e n m l (is_not_truth o) s = absurd (cc)

negated_first : (b : Bool) {ts rest : List Terminal} → b ≡ true → Told ts b rest → ts ≡ Fixed k.Not ∷ rest
negated_first true f e = e
negated_first false f e = absurd (cc)

pub negated_refused : (b : Bool) {ts rest : List Terminal} → b ≡ true → Told ts b rest →
    ((us : List Terminal) → rest ≡ Fixed k.Between ∷ us → ⊥) → ((us : List Terminal) → rest ≡ Fixed k.In ∷ us → ⊥) →
    ((us : List Terminal) → rest ≡ Fixed k.Like ∷ us → ⊥) → Refuses IsTest 16 ts
negated_refused b f e n m l = λ v ws d s. no_negated (negated_first b f e) n m l d s

-- a value and its test
predicate_only : {ts rest left ws : List Terminal} {value : ComparisonTree} {asked : Test} {v : PredicateTree} → Read IsComparison 17 ts value rest →
    Part IsTest 16 rest asked left → IsPredicate v ts ws → Stops 16 ws → (predicate_tree value asked ≡ v) × (left ≡ ws)
predicate_only r p (predicate_of d q) s =
    let a = r.only _ _ d (test_stop q s) in
    let b = p.only _ _ (at_test a.1 q) s in
    (cc, b.1)

pub predicate_read : {ts rest left : List Terminal} {value : ComparisonTree} {asked : Test} → Read IsComparison 17 ts value rest →
    Part IsTest 16 rest asked left → Read IsPredicate 16 ts (predicate_tree value asked) left
predicate_read r p = record {
  found = predicate_of r.found p.found;
  only = λ v ws d s. predicate_only r p d s;
  shorter = let x = r.shorter in let y = p.within in omega arith;
}

no_value : {ts ws : List Terminal} {v : PredicateTree} → Refuses IsComparison 17 ts → IsPredicate v ts ws → Stops 16 ws → ⊥
no_value n (predicate_of d q) s = n _ _ d (test_stop q s)

pub predicate_refused : {ts : List Terminal} → Refuses IsComparison 17 ts → Refuses IsPredicate 16 ts
predicate_refused n = λ v ws d s. no_value n d s

no_test : {ts rest ws : List Terminal} {value : ComparisonTree} {v : PredicateTree} → Read IsComparison 17 ts value rest →
    Refuses IsTest 16 rest → IsPredicate v ts ws → Stops 16 ws → ⊥
no_test r n (predicate_of d q) s = n _ _ (at_test ((r.only _ _ d (test_stop q s)).1) q) s

pub predicate_untested : {ts rest : List Terminal} {value : ComparisonTree} → Read IsComparison 17 ts value rest →
    Refuses IsTest 16 rest → Refuses IsPredicate 16 ts
predicate_untested r n = λ v ws d s. no_test r n d s
