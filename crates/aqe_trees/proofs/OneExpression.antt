-- A list of terminals begins with at most one expression, where what is left does not go on with it.
use Rattle.std.proofs.Common.{ℕ, List, ◌∷◌, ◌≡◌, ◌<◌, refl, sym, subst, arith, lit<}
use Rattle.std.specs.Prelude.{Option, Some, None}
use Rattle.aqe_trees.specs.declared.terminal.Key.TheVariants as k
use Rattle.aqe_trees.specs.declared.terminal.Terminal.{Terminal}
use Rattle.aqe_trees.specs.declared.terminal.Terminal.TheVariants.{Fixed, Name, Number, Literal}
use Rattle.aqe_trees.specs.declared.expression.OrTree.{OrTree}
use Rattle.aqe_trees.specs.declared.expression.AndTree.{AndTree}
use Rattle.aqe_trees.specs.declared.expression.NotTree.{NotTree}
use Rattle.aqe_trees.specs.declared.expression.PredicateTree.{PredicateTree}
use Rattle.aqe_trees.specs.declared.expression.Test.{Test}
use Rattle.aqe_trees.specs.declared.expression.CompareOp.{CompareOp}
use Rattle.aqe_trees.specs.declared.expression.ComparisonTree.{ComparisonTree}
use Rattle.aqe_trees.specs.declared.expression.Sign.{Sign}
use Rattle.aqe_trees.specs.declared.expression.SumTree.{SumTree}
use Rattle.aqe_trees.specs.declared.expression.ProductOp.{ProductOp}
use Rattle.aqe_trees.specs.declared.expression.ProductTree.{ProductTree}
use Rattle.aqe_trees.specs.declared.expression.SignTree.{SignTree}
use Rattle.aqe_trees.specs.declared.expression.PrimaryTree.{PrimaryTree}
use Rattle.aqe_trees.specs.declared.expression.Arm.{Arm}
use Rattle.aqe_trees.specs.Words.{compare_of, sum_of, product_of, sign_at}
use Rattle.aqe_trees.specs.Follow.{binds, Stops}
use Rattle.aqe_trees.specs.Expressions.{IsOr, or_of, IsOrRest, or_end, or_more, IsAnd, and_of, IsAndRest, and_end, and_more, IsNot, not_of, IsNots, affirmed, negated, IsPredicate, predicate_of, IsTest, plain, between, not_between, one_of, not_one_of, like, not_like, is_truth, is_not_truth, IsList, list_of, IsListRest, list_end, list_more, IsComparison, comparison_of, IsComparisonRest, comparison_end, comparison_more, IsSum, sum_of_products, IsSumRest, sum_end, sum_more, IsProduct, product_of_signs, IsProductRest, product_end, product_more, IsSign, sign_of, IsSigns, unsigned, signed, IsPrimary, number, negative_number, literal, is_true, is_false, null, column, table_column, paren, cast, case, case_of, count_all, call, IsArms, end, otherwise, when}

-- which terminals begin an operand (2) and which a NOT (1)
abbrev pub starts : List Terminal → ℕ
starts (Fixed k.Not ∷ ts) = 1
starts (Fixed k.Plus ∷ ts) = 2
starts (Fixed k.Minus ∷ ts) = 2
starts (Fixed k.True ∷ ts) = 2
starts (Fixed k.False ∷ ts) = 2
starts (Fixed k.Null ∷ ts) = 2
starts (Fixed k.Open ∷ ts) = 2
starts (Fixed k.Cast ∷ ts) = 2
starts (Fixed k.Case ∷ ts) = 2
starts (Number value long ∷ ts) = 2
starts (Literal text ∷ ts) = 2
starts (Name text quoted ∷ ts) = 2
starts _ = 0

pub compare_binds : (t : Terminal) (op : CompareOp) → compare_of t ≡ Some op → binds t ≡ 17
compare_binds (Fixed k.Equal) op e = refl
compare_binds (Fixed k.DoubleEqual) op e = refl
compare_binds (Fixed k.Same) op e = refl
compare_binds (Fixed k.NotEqual) op e = refl
compare_binds (Fixed k.Less) op e = refl
compare_binds (Fixed k.AtMost) op e = refl
compare_binds (Fixed k.Greater) op e = refl
compare_binds (Fixed k.AtLeast) op e = refl
compare_binds _ op e = cc

pub sum_binds : (t : Terminal) (op : Sign) → sum_of t ≡ Some op → binds t ≡ 18
sum_binds (Fixed k.Plus) op e = refl
sum_binds (Fixed k.Minus) op e = refl
sum_binds _ op e = cc

pub product_binds : (t : Terminal) (op : ProductOp) → product_of t ≡ Some op → binds t ≡ 19
product_binds (Fixed k.Star) op e = refl
product_binds (Fixed k.Percent) op e = refl
product_binds (Fixed k.Div) op e = refl
product_binds _ op e = cc

pub sign_starts : (ts : List Terminal) (op : Sign) → sign_at ts ≡ Some op → starts ts ≡ 2
sign_starts (Fixed k.Plus ∷ ts) op e = refl
sign_starts (Fixed k.Minus ∷ ts) op e = refl
sign_starts _ op e = cc

up14 : (us : List Terminal) → Stops 10 us → Stops 14 us
up14 us s = omega arith

pub at_or_rest : {xs : List AndTree} {a b us : List Terminal} → a ≡ b → IsOrRest xs b us → IsOrRest xs a us
at_or_rest {xs = xs} {us = us} e d = subst (λ (x : List Terminal). IsOrRest xs x us) (sym e) d

pub or_stop : {xs : List AndTree} {vs us : List Terminal} → IsOrRest xs vs us → Stops 14 us → Stops 15 vs
or_stop or_end s = omega arith
or_stop (or_more d r) s = omega arith

pub at_and_rest : {xs : List NotTree} {a b us : List Terminal} → a ≡ b → IsAndRest xs b us → IsAndRest xs a us
at_and_rest {xs = xs} {us = us} e d = subst (λ (x : List Terminal). IsAndRest xs x us) (sym e) d

pub and_stop : {xs : List NotTree} {vs us : List Terminal} → IsAndRest xs vs us → Stops 15 us → Stops 16 vs
and_stop and_end s = omega arith
and_stop (and_more d r) s = omega arith

pub at_list_rest : {xs : List OrTree} {a b us : List Terminal} → a ≡ b → IsListRest xs b us → IsListRest xs a us
at_list_rest {xs = xs} {us = us} e d = subst (λ (x : List Terminal). IsListRest xs x us) (sym e) d

pub list_stop : {xs : List OrTree} {vs us : List Terminal} → IsListRest xs vs us → Stops 9 us → Stops 10 vs
list_stop list_end s = omega arith
list_stop (list_more d r) s = omega arith

pub at_comparison_rest : {xs : List (CompareOp × SumTree)} {a b us : List Terminal} → a ≡ b → IsComparisonRest xs b us → IsComparisonRest xs a us
at_comparison_rest {xs = xs} {us = us} e d = subst (λ (x : List Terminal). IsComparisonRest xs x us) (sym e) d

pub comparison_stop : {xs : List (CompareOp × SumTree)} {vs us : List Terminal} → IsComparisonRest xs vs us → Stops 17 us → Stops 18 vs
comparison_stop comparison_end s = omega arith
comparison_stop (comparison_more {t = t} e d r) s = let b = compare_binds t _ e in omega arith

pub at_sum_rest : {xs : List (Sign × ProductTree)} {a b us : List Terminal} → a ≡ b → IsSumRest xs b us → IsSumRest xs a us
at_sum_rest {xs = xs} {us = us} e d = subst (λ (x : List Terminal). IsSumRest xs x us) (sym e) d

pub sum_stop : {xs : List (Sign × ProductTree)} {vs us : List Terminal} → IsSumRest xs vs us → Stops 18 us → Stops 19 vs
sum_stop sum_end s = omega arith
sum_stop (sum_more {t = t} e d r) s = let b = sum_binds t _ e in omega arith

pub at_product_rest : {xs : List (ProductOp × SignTree)} {a b us : List Terminal} → a ≡ b → IsProductRest xs b us → IsProductRest xs a us
at_product_rest {xs = xs} {us = us} e d = subst (λ (x : List Terminal). IsProductRest xs x us) (sym e) d

pub product_stop : {xs : List (ProductOp × SignTree)} {vs us : List Terminal} → IsProductRest xs vs us → Stops 19 us → Stops 20 vs
product_stop product_end s = omega arith
product_stop (product_more {t = t} e d r) s = let b = product_binds t _ e in omega arith

-- a test is stopped where its predicate is
pub test_stop : {test : Test} {vs us : List Terminal} → IsTest test vs us → Stops 16 us → Stops 17 vs
test_stop plain s = omega arith
test_stop (between d e) s = omega arith
test_stop (not_between d e) s = omega arith
test_stop (one_of d) s = omega arith
test_stop (not_one_of d) s = omega arith
test_stop (like d) s = omega arith
test_stop (not_like d) s = omega arith
test_stop (is_truth e) s = omega arith
test_stop (is_not_truth e) s = omega arith

pub primary_unsigned : {t : PrimaryTree} {ts us : List Terminal} → IsPrimary t ts us → sign_at ts ≡ None
primary_unsigned (number h) = refl
primary_unsigned negative_number = refl
primary_unsigned literal = refl
primary_unsigned is_true = refl
primary_unsigned is_false = refl
primary_unsigned null = refl
primary_unsigned column = refl
primary_unsigned table_column = refl
primary_unsigned (paren d) = refl
primary_unsigned (cast d e) = refl
primary_unsigned (case d) = refl
primary_unsigned (case_of d e) = refl
primary_unsigned (count_all e) = refl
primary_unsigned (call d) = refl

pub primary_starts : {t : PrimaryTree} {ts us : List Terminal} → IsPrimary t ts us → starts ts ≡ 2
primary_starts (number h) = refl
primary_starts negative_number = refl
primary_starts literal = refl
primary_starts is_true = refl
primary_starts is_false = refl
primary_starts null = refl
primary_starts column = refl
primary_starts table_column = refl
primary_starts (paren d) = refl
primary_starts (cast d e) = refl
primary_starts (case d) = refl
primary_starts (case_of d e) = refl
primary_starts (count_all e) = refl
primary_starts (call d) = refl

pub signs_start : {n : List Sign} {t : PrimaryTree} {ts us : List Terminal} → IsSigns n t ts us → starts ts ≡ 2
signs_start (unsigned d) = primary_starts d
signs_start (signed {t = t} {ts = ts} e d) = sign_starts (t ∷ ts) _ e

pub signed_starts : {t : SignTree} {ts us : List Terminal} → IsSign t ts us → starts ts ≡ 2
signed_starts (sign_of d) = signs_start d

pub product_starts : {t : ProductTree} {ts us : List Terminal} → IsProduct t ts us → starts ts ≡ 2
product_starts (product_of_signs d r) = signed_starts d

pub sum_starts : {t : SumTree} {ts us : List Terminal} → IsSum t ts us → starts ts ≡ 2
sum_starts (sum_of_products d r) = product_starts d

pub comparison_starts : {t : ComparisonTree} {ts us : List Terminal} → IsComparison t ts us → starts ts ≡ 2
comparison_starts (comparison_of d r) = sum_starts d

pub predicate_starts : {t : PredicateTree} {ts us : List Terminal} → IsPredicate t ts us → starts ts ≡ 2
predicate_starts (predicate_of d r) = comparison_starts d

pub nots_start : {n : ℕ} {t : PredicateTree} {ts us : List Terminal} → IsNots n t ts us → 0 < starts ts
nots_start (affirmed d) = let e = predicate_starts d in omega arith
nots_start (negated d) = lit< tt

pub not_starts : {t : NotTree} {ts us : List Terminal} → IsNot t ts us → 0 < starts ts
not_starts (not_of d) = nots_start d

pub and_starts : {t : AndTree} {ts us : List Terminal} → IsAnd t ts us → 0 < starts ts
and_starts (and_of d r) = not_starts d

pub or_starts : {t : OrTree} {ts us : List Terminal} → IsOr t ts us → 0 < starts ts
or_starts (or_of d r) = and_starts d

pub list_starts : {t : List OrTree} {ts us : List Terminal} → IsList t ts us → 0 < starts ts
list_starts (list_of d r) = or_starts d

pub no_not : {t : PredicateTree} {ts us : List Terminal} → IsPredicate t (Fixed k.Not ∷ ts) us → ⊥
no_not d = let e = predicate_starts d in omega arith

pub no_star : {t : List OrTree} {ts us : List Terminal} → IsList t (Fixed k.Star ∷ ts) us → ⊥
no_star d = let e = list_starts d in omega arith

pub arms_begin : {first : Arm} {rest : List Arm} {other : Option OrTree} {ts us : List Terminal} →
    IsArms (first ∷ rest) other ts us → starts ts ≡ 0
arms_begin (when d e r) = refl

-- the rest of a rule over equal lists
pub at_test : {test : Test} {a b us : List Terminal} → a ≡ b → IsTest test b us → IsTest test a us
at_test {test = test} {us = us} e d = subst (λ (x : List Terminal). IsTest test x us) (sym e) d

pub at_comparison : {t : ComparisonTree} {a b us : List Terminal} → a ≡ b → IsComparison t b us → IsComparison t a us
at_comparison {t = t} {us = us} e d = subst (λ (x : List Terminal). IsComparison t x us) (sym e) d

pub at_value : {t : OrTree} {a b us : List Terminal} → a ≡ b → IsOr t b us → IsOr t a us
at_value {t = t} {us = us} e d = subst (λ (x : List Terminal). IsOr t x us) (sym e) d

pub at_arms : {arms : List Arm} {other : Option OrTree} {a b us : List Terminal} → a ≡ b → IsArms arms other b us → IsArms arms other a us
at_arms {arms = arms} {other = other} {us = us} e d = subst (λ (x : List Terminal). IsArms arms other x us) (sym e) d

pub arms_stop : {arms : List Arm} {other : Option OrTree} {ts us : List Terminal} → IsArms arms other ts us → Stops 14 ts
arms_stop end = lit< tt
arms_stop (otherwise d) = lit< tt
arms_stop (when d e r) = lit< tt

mutual
  -- or
  pub one_or : {t v : OrTree} {ts us ws : List Terminal} → IsOr t ts us → IsOr v ts ws → Stops 14 us → Stops 14 ws → (t ≡ v) × (us ≡ ws)
  one_or (or_of d r) (or_of e q) s z =
      let p = one_and d e (or_stop r s) (or_stop q z) in
      let n = one_or_rest r (at_or_rest p.1 q) s z in
      (cc, n.1)

  pub one_or_rest : {xs ys : List AndTree} {ts us ws : List Terminal} → IsOrRest xs ts us → IsOrRest ys ts ws → Stops 14 us → Stops 14 ws → (xs ≡ ys) × (us ≡ ws)
  one_or_rest or_end or_end s z = (refl, refl)
  one_or_rest or_end (or_more e q) s z = absurd (omega arith)
  one_or_rest (or_more d r) or_end s z = absurd (omega arith)
  one_or_rest (or_more d r) (or_more e q) s z =
      let p = one_and d e (or_stop r s) (or_stop q z) in
      let n = one_or_rest r (at_or_rest p.1 q) s z in
      (cc, n.1)

  -- and
  pub one_and : {t v : AndTree} {ts us ws : List Terminal} → IsAnd t ts us → IsAnd v ts ws → Stops 15 us → Stops 15 ws → (t ≡ v) × (us ≡ ws)
  one_and (and_of d r) (and_of e q) s z =
      let p = one_not d e (and_stop r s) (and_stop q z) in
      let n = one_and_rest r (at_and_rest p.1 q) s z in
      (cc, n.1)

  pub one_and_rest : {xs ys : List NotTree} {ts us ws : List Terminal} → IsAndRest xs ts us → IsAndRest ys ts ws → Stops 15 us → Stops 15 ws → (xs ≡ ys) × (us ≡ ws)
  one_and_rest and_end and_end s z = (refl, refl)
  one_and_rest and_end (and_more e q) s z = absurd (omega arith)
  one_and_rest (and_more d r) and_end s z = absurd (omega arith)
  one_and_rest (and_more d r) (and_more e q) s z =
      let p = one_not d e (and_stop r s) (and_stop q z) in
      let n = one_and_rest r (at_and_rest p.1 q) s z in
      (cc, n.1)

  -- list
  pub one_list : {t v : List OrTree} {ts us ws : List Terminal} → IsList t ts us → IsList v ts ws → Stops 9 us → Stops 9 ws → (t ≡ v) × (us ≡ ws)
  one_list (list_of d r) (list_of e q) s z =
      let p = one_or d e (up14 _ (list_stop r s)) (up14 _ (list_stop q z)) in
      let n = one_list_rest r (at_list_rest p.1 q) s z in
      (cc, n.1)

  pub one_list_rest : {xs ys : List OrTree} {ts us ws : List Terminal} → IsListRest xs ts us → IsListRest ys ts ws → Stops 9 us → Stops 9 ws → (xs ≡ ys) × (us ≡ ws)
  one_list_rest list_end list_end s z = (refl, refl)
  one_list_rest list_end (list_more e q) s z = absurd (omega arith)
  one_list_rest (list_more d r) list_end s z = absurd (omega arith)
  one_list_rest (list_more d r) (list_more e q) s z =
      let p = one_or d e (up14 _ (list_stop r s)) (up14 _ (list_stop q z)) in
      let n = one_list_rest r (at_list_rest p.1 q) s z in
      (cc, n.1)

  -- comparison
  pub one_comparison : {t v : ComparisonTree} {ts us ws : List Terminal} → IsComparison t ts us → IsComparison v ts ws → Stops 17 us → Stops 17 ws → (t ≡ v) × (us ≡ ws)
  one_comparison (comparison_of d r) (comparison_of e q) s z =
      let p = one_sum d e (comparison_stop r s) (comparison_stop q z) in
      let n = one_comparison_rest r (at_comparison_rest p.1 q) s z in
      (cc, n.1)

  pub one_comparison_rest : {xs ys : List (CompareOp × SumTree)} {ts us ws : List Terminal} → IsComparisonRest xs ts us → IsComparisonRest ys ts ws → Stops 17 us → Stops 17 ws → (xs ≡ ys) × (us ≡ ws)
  one_comparison_rest comparison_end comparison_end s z = (refl, refl)
  one_comparison_rest comparison_end (comparison_more {t = t} o e q) s z = let b = compare_binds t _ o in absurd (omega arith)
  one_comparison_rest (comparison_more {t = t} o d r) comparison_end s z = let b = compare_binds t _ o in absurd (omega arith)
  one_comparison_rest (comparison_more i d r) (comparison_more o e q) s z =
      let p = one_sum d e (comparison_stop r s) (comparison_stop q z) in
      let n = one_comparison_rest r (at_comparison_rest p.1 q) s z in
      (cc, n.1)

  -- sum
  pub one_sum : {t v : SumTree} {ts us ws : List Terminal} → IsSum t ts us → IsSum v ts ws → Stops 18 us → Stops 18 ws → (t ≡ v) × (us ≡ ws)
  one_sum (sum_of_products d r) (sum_of_products e q) s z =
      let p = one_product d e (sum_stop r s) (sum_stop q z) in
      let n = one_sum_rest r (at_sum_rest p.1 q) s z in
      (cc, n.1)

  pub one_sum_rest : {xs ys : List (Sign × ProductTree)} {ts us ws : List Terminal} → IsSumRest xs ts us → IsSumRest ys ts ws → Stops 18 us → Stops 18 ws → (xs ≡ ys) × (us ≡ ws)
  one_sum_rest sum_end sum_end s z = (refl, refl)
  one_sum_rest sum_end (sum_more {t = t} o e q) s z = let b = sum_binds t _ o in absurd (omega arith)
  one_sum_rest (sum_more {t = t} o d r) sum_end s z = let b = sum_binds t _ o in absurd (omega arith)
  one_sum_rest (sum_more i d r) (sum_more o e q) s z =
      let p = one_product d e (sum_stop r s) (sum_stop q z) in
      let n = one_sum_rest r (at_sum_rest p.1 q) s z in
      (cc, n.1)

  -- product
  pub one_product : {t v : ProductTree} {ts us ws : List Terminal} → IsProduct t ts us → IsProduct v ts ws → Stops 19 us → Stops 19 ws → (t ≡ v) × (us ≡ ws)
  one_product (product_of_signs d r) (product_of_signs e q) s z =
      let p = one_sign d e (product_stop r s) (product_stop q z) in
      let n = one_product_rest r (at_product_rest p.1 q) s z in
      (cc, n.1)

  pub one_product_rest : {xs ys : List (ProductOp × SignTree)} {ts us ws : List Terminal} → IsProductRest xs ts us → IsProductRest ys ts ws → Stops 19 us → Stops 19 ws → (xs ≡ ys) × (us ≡ ws)
  one_product_rest product_end product_end s z = (refl, refl)
  one_product_rest product_end (product_more {t = t} o e q) s z = let b = product_binds t _ o in absurd (omega arith)
  one_product_rest (product_more {t = t} o d r) product_end s z = let b = product_binds t _ o in absurd (omega arith)
  one_product_rest (product_more i d r) (product_more o e q) s z =
      let p = one_sign d e (product_stop r s) (product_stop q z) in
      let n = one_product_rest r (at_product_rest p.1 q) s z in
      (cc, n.1)

  -- not
  pub one_not : {t v : NotTree} {ts us ws : List Terminal} → IsNot t ts us → IsNot v ts ws → Stops 16 us → Stops 16 ws → (t ≡ v) × (us ≡ ws)
  one_not (not_of d) (not_of e) s z = let p = one_nots d e s z in (cc, p.2)

  pub one_nots : {m n : ℕ} {t v : PredicateTree} {ts us ws : List Terminal} → IsNots m t ts us → IsNots n v ts ws → Stops 16 us → Stops 16 ws → (m ≡ n) × (t ≡ v) × (us ≡ ws)
  one_nots (affirmed d) (affirmed e) s z = let p = one_predicate d e s z in (refl, p.0, p.1)
  one_nots (affirmed d) (negated e) s z = absurd (no_not d)
  one_nots (negated d) (affirmed e) s z = absurd (no_not e)
  one_nots (negated d) (negated e) s z = let p = one_nots d e s z in (cc, p.1, p.2)

  -- predicate
  pub one_predicate : {t v : PredicateTree} {ts us ws : List Terminal} → IsPredicate t ts us → IsPredicate v ts ws → Stops 16 us → Stops 16 ws → (t ≡ v) × (us ≡ ws)
  one_predicate (predicate_of d r) (predicate_of e q) s z =
      let p = one_comparison d e (test_stop r s) (test_stop q z) in
      let n = one_test r (at_test p.1 q) s z in
      (cc, n.1)

  -- test
  pub one_test : {t v : Test} {ts us ws : List Terminal} → IsTest t ts us → IsTest v ts ws → Stops 16 us → Stops 16 ws → (t ≡ v) × (us ≡ ws)
  one_test plain plain s z = (refl, refl)
  one_test plain (between d e) s z = absurd (omega arith)
  one_test plain (not_between d e) s z = absurd (omega arith)
  one_test plain (one_of d) s z = absurd (omega arith)
  one_test plain (not_one_of d) s z = absurd (omega arith)
  one_test plain (like d) s z = absurd (omega arith)
  one_test plain (not_like d) s z = absurd (omega arith)
  one_test plain (is_truth d) s z = absurd (omega arith)
  one_test plain (is_not_truth d) s z = absurd (omega arith)
  one_test (between d e) plain s z = absurd (omega arith)
  one_test (not_between d e) plain s z = absurd (omega arith)
  one_test (one_of d) plain s z = absurd (omega arith)
  one_test (not_one_of d) plain s z = absurd (omega arith)
  one_test (like d) plain s z = absurd (omega arith)
  one_test (not_like d) plain s z = absurd (omega arith)
  one_test (is_truth d) plain s z = absurd (omega arith)
  one_test (is_not_truth d) plain s z = absurd (omega arith)
  one_test (between d e) (between f g) s z =
      let p = one_comparison d f (lit< tt) (lit< tt) in
      let n = one_comparison e (at_comparison (cc) g) (omega arith) (omega arith) in
      (cc, n.1)
  one_test (not_between d e) (not_between f g) s z =
      let p = one_comparison d f (lit< tt) (lit< tt) in
      let n = one_comparison e (at_comparison (cc) g) (omega arith) (omega arith) in
      (cc, n.1)
  one_test (one_of d) (one_of e) s z = let p = one_list d e (lit< tt) (lit< tt) in (cc, cc)
  one_test (not_one_of d) (not_one_of e) s z = let p = one_list d e (lit< tt) (lit< tt) in (cc, cc)
  one_test (like d) (like e) s z = let p = one_comparison d e (omega arith) (omega arith) in (cc, p.1)
  one_test (not_like d) (not_like e) s z = let p = one_comparison d e (omega arith) (omega arith) in (cc, p.1)
  one_test (is_truth d) (is_truth e) s z = (cc, refl)
  one_test (is_truth d) (is_not_truth e) s z = absurd (cc)
  one_test (is_not_truth d) (is_truth e) s z = absurd (cc)
  one_test (is_not_truth d) (is_not_truth e) s z = (cc, refl)

  -- sign
  pub one_sign : {t v : SignTree} {ts us ws : List Terminal} → IsSign t ts us → IsSign v ts ws → Stops 20 us → Stops 20 ws → (t ≡ v) × (us ≡ ws)
  one_sign (sign_of d) (sign_of e) s z = let p = one_signs d e s z in (cc, p.2)

  pub one_signs : {m n : List Sign} {t v : PrimaryTree} {ts us ws : List Terminal} → IsSigns m t ts us → IsSigns n v ts ws → Stops 20 us → Stops 20 ws → (m ≡ n) × (t ≡ v) × (us ≡ ws)
  one_signs (unsigned d) (unsigned e) s z = let p = one_primary d e s z in (refl, p.0, p.1)
  one_signs (unsigned d) (signed o e) s z = let u = primary_unsigned d in absurd (cc)
  one_signs (signed o d) (unsigned e) s z = let u = primary_unsigned e in absurd (cc)
  one_signs (signed i d) (signed o e) s z = let p = one_signs d e s z in (cc, p.1, p.2)

  -- primary
  pub one_primary : {t v : PrimaryTree} {ts us ws : List Terminal} → IsPrimary t ts us → IsPrimary v ts ws → Stops 20 us → Stops 20 ws → (t ≡ v) × (us ≡ ws)
  one_primary (number h) (number i) s z = (refl, refl)
  one_primary negative_number negative_number s z = (refl, refl)
  one_primary literal literal s z = (refl, refl)
  one_primary is_true is_true s z = (refl, refl)
  one_primary is_false is_false s z = (refl, refl)
  one_primary null null s z = (refl, refl)
  one_primary column column s z = (refl, refl)
  one_primary column table_column s z = absurd (omega arith)
  one_primary column (count_all e) s z = absurd (omega arith)
  one_primary column (call d) s z = absurd (omega arith)
  one_primary table_column column s z = absurd (omega arith)
  one_primary table_column table_column s z = (refl, refl)
  one_primary (paren d) (paren e) s z = let p = one_or d e (lit< tt) (lit< tt) in (cc, cc)
  one_primary (cast d i) (cast e o) s z = let p = one_or d e (lit< tt) (lit< tt) in (cc, cc)
  one_primary (case d) (case e) s z = let p = one_arms d e in (cc, p.2)
  one_primary (case d) (case_of e q) s z = absurd (let b = arms_begin d in let o = or_starts e in omega arith)
  one_primary (case_of d r) (case e) s z = absurd (let b = arms_begin e in let o = or_starts d in omega arith)
  one_primary (case_of d r) (case_of e q) s z =
      let p = one_or d e (arms_stop r) (arms_stop q) in
      let n = one_arms r (at_arms p.1 q) in
      (cc, n.2)
  one_primary (count_all e) column s z = absurd (omega arith)
  one_primary (count_all e) (count_all d) s z = (refl, refl)
  one_primary (count_all e) (call d) s z = absurd (no_star d)
  one_primary (call d) column s z = absurd (omega arith)
  one_primary (call d) (count_all e) s z = absurd (no_star d)
  one_primary (call d) (call e) s z = let p = one_list d e (lit< tt) (lit< tt) in (cc, cc)

  -- arms
  pub one_arms : {t v : List Arm} {a b : Option OrTree} {ts us ws : List Terminal} → IsArms t a ts us → IsArms v b ts ws → (t ≡ v) × (a ≡ b) × (us ≡ ws)
  one_arms end end = (refl, refl, refl)
  one_arms (otherwise d) (otherwise e) = let p = one_or d e (lit< tt) (lit< tt) in (refl, cc, cc)
  one_arms (when d e r) (when f g q) =
      let p = one_or d f (lit< tt) (lit< tt) in
      let n = one_or e (at_value (cc) g) (arms_stop r) (arms_stop q) in
      let m = one_arms r (at_arms n.1 q) in
      (cc, m.1, m.2)
