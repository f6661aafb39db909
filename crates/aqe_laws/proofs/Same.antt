-- Equal expressions are the same expression.
use Rattle.std.proofs.Common.{◌≡◌, Bool, true, false, ◌&&◌, refl, ap, subst, rules, eqb-true, eq-eqb}
use Rattle.std.specs.Cmp.Derive.{both_true}
use Rattle.std.specs.Prelude.{IsTrue, ◌↔◌}
use Rattle.aqe_values.specs.Equality.{ValuesEqualAsData}
use Rattle.aqe_expr.specs.contracts.expr.UnaryOpPartialEq.TheImpl as unary_eq
use Rattle.aqe_expr.specs.contracts.expr.BinaryOpPartialEq.TheImpl as binary_eq
use Rattle.aqe_expr.specs.declared.expr.UnaryOp.{UnaryOp}
use Rattle.aqe_expr.specs.declared.expr.BinaryOp.{BinaryOp}
use Rattle.aqe_expr.specs.declared.expr.Expr.{Expr, Column, Literal, Coalesce}
use Rattle.aqe_expr.specs.declared.expr.Operands as list
use Rattle.aqe_expr.specs.declared.expr.CasePairs as pairs
use Rattle.aqe_expr.specs.Shapes.{unary_of, binary_of, between_of, one_of, case_of, switch_of, operand, pair}
use Rattle.aqe_rules.specs.Equality.{same_expr, same_list, same_pairs}
use Rattle.aqe_laws.specs.Laws.{SameIsEqual}

values_same : ValuesEqualAsData
values_same a b = search rules

unary_same : (a b : UnaryOp) → IsTrue ((unary_eq.ghosts).eq a b) ↔ (a ≡ b)
unary_same a b = search rules

binary_same : (a b : BinaryOp) → IsTrue ((binary_eq.ghosts).eq a b) ↔ (a ≡ b)
binary_same a b = search rules

differ : false ≡ true → ⊥
differ e = cc

-- both of two, and all of three
pub first : (a b : Bool) → a && b ≡ true → a ≡ true
first true b h = refl
first false b h = absurd (differ h)

pub second : (a b : Bool) → a && b ≡ true → b ≡ true
second true b h = h
second false b h = absurd (differ h)

-- expressions for which the answer is true are the same
mutual
  pub equal : (x y : Expr) → same_expr x y ≡ true → x ≡ y
  equal (Column m) (Column n) e = ap (λ k. Column k) (eqb-true m n e)
  equal (Literal v) (Literal w) e = ap (λ k. Literal k) ((values_same v w).0 e)
  equal (unary_of op a) (unary_of oq b) e =
      let s : op ≡ oq = (unary_same op oq).0 (first ((unary_eq.ghosts).eq op oq) (same_expr a b) e) in
      let t : a ≡ b = equal a b (second ((unary_eq.ghosts).eq op oq) (same_expr a b) e) in
      rw (s, t) refl
  equal (binary_of op a c) (binary_of oq b d) e =
      let f : (binary_eq.ghosts).eq op oq && same_expr a b ≡ true = first ((binary_eq.ghosts).eq op oq && same_expr a b) (same_expr c d) e in
      let s : op ≡ oq = (binary_same op oq).0 (first ((binary_eq.ghosts).eq op oq) (same_expr a b) f) in
      let t : a ≡ b = equal a b (second ((binary_eq.ghosts).eq op oq) (same_expr a b) f) in
      let u : c ≡ d = equal c d (second ((binary_eq.ghosts).eq op oq && same_expr a b) (same_expr c d) e) in
      rw (s, t, u) refl
  equal (between_of a l h) (between_of b m i) e =
      let f : same_expr a b && same_expr l m ≡ true = first (same_expr a b && same_expr l m) (same_expr h i) e in
      let s : a ≡ b = equal a b (first (same_expr a b) (same_expr l m) f) in
      let t : l ≡ m = equal l m (second (same_expr a b) (same_expr l m) f) in
      let u : h ≡ i = equal h i (second (same_expr a b && same_expr l m) (same_expr h i) e) in
      rw (s, t, u) refl
  equal (one_of a l) (one_of b m) e =
      let s : a ≡ b = equal a b (first (same_expr a b) (same_list l m) e) in
      let t : l ≡ m = equal_list l m (second (same_expr a b) (same_list l m) e) in
      rw (s, t) refl
  equal (case_of p e) (case_of q f) g =
      let s : p ≡ q = equal_pairs p q (first (same_pairs p q) (same_expr e f) g) in
      let t : e ≡ f = equal e f (second (same_pairs p q) (same_expr e f) g) in
      rw (s, t) refl
  equal (switch_of a p e) (switch_of b q f) g =
      let h : same_expr a b && same_pairs p q ≡ true = first (same_expr a b && same_pairs p q) (same_expr e f) g in
      let s : a ≡ b = equal a b (first (same_expr a b) (same_pairs p q) h) in
      let t : p ≡ q = equal_pairs p q (second (same_expr a b) (same_pairs p q) h) in
      let u : e ≡ f = equal e f (second (same_expr a b && same_pairs p q) (same_expr e f) g) in
      rw (s, t, u) refl
  equal (Coalesce l) (Coalesce m) e = ap (λ k. Coalesce k) (equal_list l m e)
  equal (Column a) (Literal x) e = absurd (differ e)
  equal (Column a) (unary_of x y) e = absurd (differ e)
  equal (Column a) (binary_of x y z) e = absurd (differ e)
  equal (Column a) (between_of x y z) e = absurd (differ e)
  equal (Column a) (one_of x y) e = absurd (differ e)
  equal (Column a) (case_of x y) e = absurd (differ e)
  equal (Column a) (switch_of x y z) e = absurd (differ e)
  equal (Column a) (Coalesce x) e = absurd (differ e)
  equal (Literal a) (Column x) e = absurd (differ e)
  equal (Literal a) (unary_of x y) e = absurd (differ e)
  equal (Literal a) (binary_of x y z) e = absurd (differ e)
  equal (Literal a) (between_of x y z) e = absurd (differ e)
  equal (Literal a) (one_of x y) e = absurd (differ e)
  equal (Literal a) (case_of x y) e = absurd (differ e)
  equal (Literal a) (switch_of x y z) e = absurd (differ e)
  equal (Literal a) (Coalesce x) e = absurd (differ e)
  equal (unary_of a b) (Column x) e = absurd (differ e)
  equal (unary_of a b) (Literal x) e = absurd (differ e)
  equal (unary_of a b) (binary_of x y z) e = absurd (differ e)
  equal (unary_of a b) (between_of x y z) e = absurd (differ e)
  equal (unary_of a b) (one_of x y) e = absurd (differ e)
  equal (unary_of a b) (case_of x y) e = absurd (differ e)
  equal (unary_of a b) (switch_of x y z) e = absurd (differ e)
  equal (unary_of a b) (Coalesce x) e = absurd (differ e)
  equal (binary_of a b c) (Column x) e = absurd (differ e)
  equal (binary_of a b c) (Literal x) e = absurd (differ e)
  equal (binary_of a b c) (unary_of x y) e = absurd (differ e)
  equal (binary_of a b c) (between_of x y z) e = absurd (differ e)
  equal (binary_of a b c) (one_of x y) e = absurd (differ e)
  equal (binary_of a b c) (case_of x y) e = absurd (differ e)
  equal (binary_of a b c) (switch_of x y z) e = absurd (differ e)
  equal (binary_of a b c) (Coalesce x) e = absurd (differ e)
  equal (between_of a b c) (Column x) e = absurd (differ e)
  equal (between_of a b c) (Literal x) e = absurd (differ e)
  equal (between_of a b c) (unary_of x y) e = absurd (differ e)
  equal (between_of a b c) (binary_of x y z) e = absurd (differ e)
  equal (between_of a b c) (one_of x y) e = absurd (differ e)
  equal (between_of a b c) (case_of x y) e = absurd (differ e)
  equal (between_of a b c) (switch_of x y z) e = absurd (differ e)
  equal (between_of a b c) (Coalesce x) e = absurd (differ e)
  equal (one_of a b) (Column x) e = absurd (differ e)
  equal (one_of a b) (Literal x) e = absurd (differ e)
  equal (one_of a b) (unary_of x y) e = absurd (differ e)
  equal (one_of a b) (binary_of x y z) e = absurd (differ e)
  equal (one_of a b) (between_of x y z) e = absurd (differ e)
  equal (one_of a b) (case_of x y) e = absurd (differ e)
  equal (one_of a b) (switch_of x y z) e = absurd (differ e)
  equal (one_of a b) (Coalesce x) e = absurd (differ e)
  equal (case_of a b) (Column x) e = absurd (differ e)
  equal (case_of a b) (Literal x) e = absurd (differ e)
  equal (case_of a b) (unary_of x y) e = absurd (differ e)
  equal (case_of a b) (binary_of x y z) e = absurd (differ e)
  equal (case_of a b) (between_of x y z) e = absurd (differ e)
  equal (case_of a b) (one_of x y) e = absurd (differ e)
  equal (case_of a b) (switch_of x y z) e = absurd (differ e)
  equal (case_of a b) (Coalesce x) e = absurd (differ e)
  equal (switch_of a b c) (Column x) e = absurd (differ e)
  equal (switch_of a b c) (Literal x) e = absurd (differ e)
  equal (switch_of a b c) (unary_of x y) e = absurd (differ e)
  equal (switch_of a b c) (binary_of x y z) e = absurd (differ e)
  equal (switch_of a b c) (between_of x y z) e = absurd (differ e)
  equal (switch_of a b c) (one_of x y) e = absurd (differ e)
  equal (switch_of a b c) (case_of x y) e = absurd (differ e)
  equal (switch_of a b c) (Coalesce x) e = absurd (differ e)
  equal (Coalesce a) (Column x) e = absurd (differ e)
  equal (Coalesce a) (Literal x) e = absurd (differ e)
  equal (Coalesce a) (unary_of x y) e = absurd (differ e)
  equal (Coalesce a) (binary_of x y z) e = absurd (differ e)
  equal (Coalesce a) (between_of x y z) e = absurd (differ e)
  equal (Coalesce a) (one_of x y) e = absurd (differ e)
  equal (Coalesce a) (case_of x y) e = absurd (differ e)
  equal (Coalesce a) (switch_of x y z) e = absurd (differ e)

  equal_list : (l m : list.Operands) → same_list l m ≡ true → l ≡ m
  equal_list list.End list.End e = refl
  equal_list (operand a l) (operand b m) e =
      let s : a ≡ b = equal a b (first (same_expr a b) (same_list l m) e) in
      let t : l ≡ m = equal_list l m (second (same_expr a b) (same_list l m) e) in
      rw (s, t) refl
  equal_list list.End (operand b m) e = absurd (differ e)
  equal_list (operand a l) list.End e = absurd (differ e)

  equal_pairs : (p q : pairs.CasePairs) → same_pairs p q ≡ true → p ≡ q
  equal_pairs pairs.End pairs.End e = refl
  equal_pairs (pair t g p) (pair u h q) e =
      let f : same_expr t u && same_expr g h ≡ true = first (same_expr t u && same_expr g h) (same_pairs p q) e in
      let r : t ≡ u = equal t u (first (same_expr t u) (same_expr g h) f) in
      let s : g ≡ h = equal g h (second (same_expr t u) (same_expr g h) f) in
      let v : p ≡ q = equal_pairs p q (second (same_expr t u && same_expr g h) (same_pairs p q) e) in
      rw (r, s, v) refl
  equal_pairs pairs.End (pair u h q) e = absurd (differ e)
  equal_pairs (pair t g p) pairs.End e = absurd (differ e)

-- an expression is the same as itself
mutual
  itself : (a : Expr) → same_expr a a ≡ true
  itself (Column n) = eq-eqb n n refl
  itself (Literal v) = (values_same v v).1 refl
  itself (unary_of op a) = both_true ((unary_same op op).1 refl) (itself a)
  itself (binary_of op a b) = both_true (both_true ((binary_same op op).1 refl) (itself a)) (itself b)
  itself (between_of a l h) = both_true (both_true (itself a) (itself l)) (itself h)
  itself (one_of a l) = both_true (itself a) (itself_list l)
  itself (case_of p e) = both_true (itself_pairs p) (itself e)
  itself (switch_of a p e) = both_true (both_true (itself a) (itself_pairs p)) (itself e)
  itself (Coalesce l) = itself_list l

  itself_list : (l : list.Operands) → same_list l l ≡ true
  itself_list list.End = refl
  itself_list (operand a l) = both_true (itself a) (itself_list l)

  itself_pairs : (p : pairs.CasePairs) → same_pairs p p ≡ true
  itself_pairs pairs.End = refl
  itself_pairs (pair t g p) = both_true (both_true (itself t) (itself g)) (itself_pairs p)

pub same_is_equal : SameIsEqual
same_is_equal a b = (equal a b, λ e. subst (λ c. same_expr a c ≡ true) e (itself a))
