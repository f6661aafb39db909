-- Two expressions of one form, and of two forms.
use Rattle.std.proofs.Common.{◌≡◌, ◌≢◌, ◌==◌, ℕ, Bool, true, false, ◌&&◌, refl, sym}
use Rattle.aqe_values.specs.declared.value.Value.{Value}
use Rattle.aqe_values.specs.Equality.{value_eq}
use Rattle.aqe_expr.specs.contracts.expr.UnaryOpPartialEq.TheImpl as unary_eq
use Rattle.aqe_expr.specs.contracts.expr.BinaryOpPartialEq.TheImpl as binary_eq
use Rattle.aqe_expr.specs.declared.expr.UnaryOp.{UnaryOp}
use Rattle.aqe_expr.specs.declared.expr.BinaryOp.{BinaryOp}
use Rattle.aqe_expr.specs.declared.expr.Expr.{Expr, Column, Literal, Coalesce}
use Rattle.aqe_expr.specs.declared.expr.Expr.TheVariants.{Unary, Binary, Between, OneOf, Case, Switch}
use Rattle.aqe_expr.specs.declared.expr.Operands.{Operands}
use Rattle.aqe_expr.specs.declared.expr.Operands.TheVariants as list
use Rattle.aqe_expr.specs.declared.expr.CasePairs.{CasePairs}
use Rattle.aqe_expr.specs.declared.expr.CasePairs.TheVariants as pairs
use Rattle.aqe_expr.specs.Shapes.{unary_of, binary_of, between_of, one_of, case_of, switch_of, operand, pair}
use Rattle.aqe_expr.proofs.Shapes.{is_unary, is_binary, is_between, is_one_of, is_case, is_switch, is_operand, is_pair}
use Rattle.aqe_rules.specs.Equality.{same_expr, same_list, same_pairs}

pub both_column : (x y : Expr) (m : ℕ) (m2 : ℕ) → x ≡ Column m → y ≡ Column m2 → same_expr x y ≡ (m == m2)
both_column x y m m2 is also = rw (is, also) refl

other_than_column : (m : ℕ) (y : Expr) → ((m2 : ℕ) → y ≢ Column m2) → same_expr (Column m) y ≡ false
other_than_column m (Column m2) other = absurd (other m2 refl)
other_than_column m (Literal v2) other = refl
other_than_column m (unary_of op2 a2) other = refl
other_than_column m (binary_of op2 l2 r2) other = refl
other_than_column m (between_of v2 l2 h2) other = refl
other_than_column m (one_of v2 l2) other = refl
other_than_column m (case_of p2 o2) other = refl
other_than_column m (switch_of v2 p2 o2) other = refl
other_than_column m (Coalesce l2) other = refl

pub no_column : (x y : Expr) (m : ℕ) → x ≡ Column m → ((m2 : ℕ) → y ≢ Column m2) → same_expr x y ≡ false
no_column x y m is other = rw is (other_than_column m y other)

pub both_literal : (x y : Expr) (v : Value) (v2 : Value) → x ≡ Literal v → y ≡ Literal v2 → same_expr x y ≡ (value_eq v v2)
both_literal x y v v2 is also = rw (is, also) refl

other_than_literal : (v : Value) (y : Expr) → ((v2 : Value) → y ≢ Literal v2) → same_expr (Literal v) y ≡ false
other_than_literal v (Column m2) other = refl
other_than_literal v (Literal v2) other = absurd (other v2 refl)
other_than_literal v (unary_of op2 a2) other = refl
other_than_literal v (binary_of op2 l2 r2) other = refl
other_than_literal v (between_of v2 l2 h2) other = refl
other_than_literal v (one_of v2 l2) other = refl
other_than_literal v (case_of p2 o2) other = refl
other_than_literal v (switch_of v2 p2 o2) other = refl
other_than_literal v (Coalesce l2) other = refl

pub no_literal : (x y : Expr) (v : Value) → x ≡ Literal v → ((v2 : Value) → y ≢ Literal v2) → same_expr x y ≡ false
no_literal x y v is other = rw is (other_than_literal v y other)

pub both_unary : (x y : Expr) (op : UnaryOp) (a : Expr) (op2 : UnaryOp) (a2 : Expr) → x ≡ Unary op a → y ≡ Unary op2 a2 → same_expr x y ≡ ((unary_eq.ghosts).eq op op2 && same_expr a a2)
both_unary x y op a op2 a2 is also = rw (is, also, is_unary op a, is_unary op2 a2) refl

other_than_unary : (op : UnaryOp) (a : Expr) (y : Expr) → ((op2 : UnaryOp) (a2 : Expr) → y ≢ Unary op2 a2) → same_expr (unary_of op a) y ≡ false
other_than_unary op a (Column m2) other = refl
other_than_unary op a (Literal v2) other = refl
other_than_unary op a (unary_of op2 a2) other = absurd (other op2 a2 (sym (is_unary op2 a2)))
other_than_unary op a (binary_of op2 l2 r2) other = refl
other_than_unary op a (between_of v2 l2 h2) other = refl
other_than_unary op a (one_of v2 l2) other = refl
other_than_unary op a (case_of p2 o2) other = refl
other_than_unary op a (switch_of v2 p2 o2) other = refl
other_than_unary op a (Coalesce l2) other = refl

pub no_unary : (x y : Expr) (op : UnaryOp) (a : Expr) → x ≡ Unary op a → ((op2 : UnaryOp) (a2 : Expr) → y ≢ Unary op2 a2) → same_expr x y ≡ false
no_unary x y op a is other = rw (is, is_unary op a) (other_than_unary op a y other)

pub both_binary : (x y : Expr) (op : BinaryOp) (l : Expr) (r : Expr) (op2 : BinaryOp) (l2 : Expr) (r2 : Expr) → x ≡ Binary op l r → y ≡ Binary op2 l2 r2 → same_expr x y ≡ ((binary_eq.ghosts).eq op op2 && same_expr l l2 && same_expr r r2)
both_binary x y op l r op2 l2 r2 is also = rw (is, also, is_binary op l r, is_binary op2 l2 r2) refl

other_than_binary : (op : BinaryOp) (l : Expr) (r : Expr) (y : Expr) → ((op2 : BinaryOp) (l2 : Expr) (r2 : Expr) → y ≢ Binary op2 l2 r2) → same_expr (binary_of op l r) y ≡ false
other_than_binary op l r (Column m2) other = refl
other_than_binary op l r (Literal v2) other = refl
other_than_binary op l r (unary_of op2 a2) other = refl
other_than_binary op l r (binary_of op2 l2 r2) other = absurd (other op2 l2 r2 (sym (is_binary op2 l2 r2)))
other_than_binary op l r (between_of v2 l2 h2) other = refl
other_than_binary op l r (one_of v2 l2) other = refl
other_than_binary op l r (case_of p2 o2) other = refl
other_than_binary op l r (switch_of v2 p2 o2) other = refl
other_than_binary op l r (Coalesce l2) other = refl

pub no_binary : (x y : Expr) (op : BinaryOp) (l : Expr) (r : Expr) → x ≡ Binary op l r → ((op2 : BinaryOp) (l2 : Expr) (r2 : Expr) → y ≢ Binary op2 l2 r2) → same_expr x y ≡ false
no_binary x y op l r is other = rw (is, is_binary op l r) (other_than_binary op l r y other)

pub both_between : (x y : Expr) (v : Expr) (l : Expr) (h : Expr) (v2 : Expr) (l2 : Expr) (h2 : Expr) → x ≡ Between v l h → y ≡ Between v2 l2 h2 → same_expr x y ≡ (same_expr v v2 && same_expr l l2 && same_expr h h2)
both_between x y v l h v2 l2 h2 is also = rw (is, also, is_between v l h, is_between v2 l2 h2) refl

other_than_between : (v : Expr) (l : Expr) (h : Expr) (y : Expr) → ((v2 : Expr) (l2 : Expr) (h2 : Expr) → y ≢ Between v2 l2 h2) → same_expr (between_of v l h) y ≡ false
other_than_between v l h (Column m2) other = refl
other_than_between v l h (Literal v2) other = refl
other_than_between v l h (unary_of op2 a2) other = refl
other_than_between v l h (binary_of op2 l2 r2) other = refl
other_than_between v l h (between_of v2 l2 h2) other = absurd (other v2 l2 h2 (sym (is_between v2 l2 h2)))
other_than_between v l h (one_of v2 l2) other = refl
other_than_between v l h (case_of p2 o2) other = refl
other_than_between v l h (switch_of v2 p2 o2) other = refl
other_than_between v l h (Coalesce l2) other = refl

pub no_between : (x y : Expr) (v : Expr) (l : Expr) (h : Expr) → x ≡ Between v l h → ((v2 : Expr) (l2 : Expr) (h2 : Expr) → y ≢ Between v2 l2 h2) → same_expr x y ≡ false
no_between x y v l h is other = rw (is, is_between v l h) (other_than_between v l h y other)

pub both_one_of : (x y : Expr) (v : Expr) (l : Operands) (v2 : Expr) (l2 : Operands) → x ≡ OneOf v l → y ≡ OneOf v2 l2 → same_expr x y ≡ (same_expr v v2 && same_list l l2)
both_one_of x y v l v2 l2 is also = rw (is, also, is_one_of v l, is_one_of v2 l2) refl

other_than_one_of : (v : Expr) (l : Operands) (y : Expr) → ((v2 : Expr) (l2 : Operands) → y ≢ OneOf v2 l2) → same_expr (one_of v l) y ≡ false
other_than_one_of v l (Column m2) other = refl
other_than_one_of v l (Literal v2) other = refl
other_than_one_of v l (unary_of op2 a2) other = refl
other_than_one_of v l (binary_of op2 l2 r2) other = refl
other_than_one_of v l (between_of v2 l2 h2) other = refl
other_than_one_of v l (one_of v2 l2) other = absurd (other v2 l2 (sym (is_one_of v2 l2)))
other_than_one_of v l (case_of p2 o2) other = refl
other_than_one_of v l (switch_of v2 p2 o2) other = refl
other_than_one_of v l (Coalesce l2) other = refl

pub no_one_of : (x y : Expr) (v : Expr) (l : Operands) → x ≡ OneOf v l → ((v2 : Expr) (l2 : Operands) → y ≢ OneOf v2 l2) → same_expr x y ≡ false
no_one_of x y v l is other = rw (is, is_one_of v l) (other_than_one_of v l y other)

pub both_case : (x y : Expr) (p : CasePairs) (o : Expr) (p2 : CasePairs) (o2 : Expr) → x ≡ Case p o → y ≡ Case p2 o2 → same_expr x y ≡ (same_pairs p p2 && same_expr o o2)
both_case x y p o p2 o2 is also = rw (is, also, is_case p o, is_case p2 o2) refl

other_than_case : (p : CasePairs) (o : Expr) (y : Expr) → ((p2 : CasePairs) (o2 : Expr) → y ≢ Case p2 o2) → same_expr (case_of p o) y ≡ false
other_than_case p o (Column m2) other = refl
other_than_case p o (Literal v2) other = refl
other_than_case p o (unary_of op2 a2) other = refl
other_than_case p o (binary_of op2 l2 r2) other = refl
other_than_case p o (between_of v2 l2 h2) other = refl
other_than_case p o (one_of v2 l2) other = refl
other_than_case p o (case_of p2 o2) other = absurd (other p2 o2 (sym (is_case p2 o2)))
other_than_case p o (switch_of v2 p2 o2) other = refl
other_than_case p o (Coalesce l2) other = refl

pub no_case : (x y : Expr) (p : CasePairs) (o : Expr) → x ≡ Case p o → ((p2 : CasePairs) (o2 : Expr) → y ≢ Case p2 o2) → same_expr x y ≡ false
no_case x y p o is other = rw (is, is_case p o) (other_than_case p o y other)

pub both_switch : (x y : Expr) (v : Expr) (p : CasePairs) (o : Expr) (v2 : Expr) (p2 : CasePairs) (o2 : Expr) → x ≡ Switch v p o → y ≡ Switch v2 p2 o2 → same_expr x y ≡ (same_expr v v2 && same_pairs p p2 && same_expr o o2)
both_switch x y v p o v2 p2 o2 is also = rw (is, also, is_switch v p o, is_switch v2 p2 o2) refl

other_than_switch : (v : Expr) (p : CasePairs) (o : Expr) (y : Expr) → ((v2 : Expr) (p2 : CasePairs) (o2 : Expr) → y ≢ Switch v2 p2 o2) → same_expr (switch_of v p o) y ≡ false
other_than_switch v p o (Column m2) other = refl
other_than_switch v p o (Literal v2) other = refl
other_than_switch v p o (unary_of op2 a2) other = refl
other_than_switch v p o (binary_of op2 l2 r2) other = refl
other_than_switch v p o (between_of v2 l2 h2) other = refl
other_than_switch v p o (one_of v2 l2) other = refl
other_than_switch v p o (case_of p2 o2) other = refl
other_than_switch v p o (switch_of v2 p2 o2) other = absurd (other v2 p2 o2 (sym (is_switch v2 p2 o2)))
other_than_switch v p o (Coalesce l2) other = refl

pub no_switch : (x y : Expr) (v : Expr) (p : CasePairs) (o : Expr) → x ≡ Switch v p o → ((v2 : Expr) (p2 : CasePairs) (o2 : Expr) → y ≢ Switch v2 p2 o2) → same_expr x y ≡ false
no_switch x y v p o is other = rw (is, is_switch v p o) (other_than_switch v p o y other)

pub both_coalesce : (x y : Expr) (l : Operands) (l2 : Operands) → x ≡ Coalesce l → y ≡ Coalesce l2 → same_expr x y ≡ (same_list l l2)
both_coalesce x y l l2 is also = rw (is, also) refl

other_than_coalesce : (l : Operands) (y : Expr) → ((l2 : Operands) → y ≢ Coalesce l2) → same_expr (Coalesce l) y ≡ false
other_than_coalesce l (Column m2) other = refl
other_than_coalesce l (Literal v2) other = refl
other_than_coalesce l (unary_of op2 a2) other = refl
other_than_coalesce l (binary_of op2 l2 r2) other = refl
other_than_coalesce l (between_of v2 l2 h2) other = refl
other_than_coalesce l (one_of v2 l2) other = refl
other_than_coalesce l (case_of p2 o2) other = refl
other_than_coalesce l (switch_of v2 p2 o2) other = refl
other_than_coalesce l (Coalesce l2) other = absurd (other l2 refl)

pub no_coalesce : (x y : Expr) (l : Operands) → x ≡ Coalesce l → ((l2 : Operands) → y ≢ Coalesce l2) → same_expr x y ≡ false
no_coalesce x y l is other = rw is (other_than_coalesce l y other)

-- chains
pub both_more : (x y : Operands) (i j : Expr) (r s : Operands) → x ≡ list.More i r → y ≡ list.More j s → same_list x y ≡ (same_expr i j && same_list r s)
both_more x y i j r s is also = rw (is, also, is_operand i r, is_operand j s) refl

one_ends : (i : Expr) (r y : Operands) → ((j : Expr) (s : Operands) → y ≢ list.More j s) → same_list (operand i r) y ≡ false
one_ends i r list.End other = refl
one_ends i r (operand j s) other = absurd (other j s (sym (is_operand j s)))

pub no_more : (x y : Operands) (i : Expr) (r : Operands) → x ≡ list.More i r → ((j : Expr) (s : Operands) → y ≢ list.More j s) → same_list x y ≡ false
no_more x y i r is other = rw (is, is_operand i r) (one_ends i r y other)

pub both_pairs : (x y : CasePairs) (t g u h : Expr) (r s : CasePairs) → x ≡ pairs.More t g r → y ≡ pairs.More u h s → same_pairs x y ≡ (same_expr t u && same_expr g h && same_pairs r s)
both_pairs x y t g u h r s is also = rw (is, also, is_pair t g r, is_pair u h s) refl

pairs_end : (t g : Expr) (r y : CasePairs) → ((u h : Expr) (s : CasePairs) → y ≢ pairs.More u h s) → same_pairs (pair t g r) y ≡ false
pairs_end t g r pairs.End other = refl
pairs_end t g r (pair u h s) other = absurd (other u h s (sym (is_pair u h s)))

pub no_pairs : (x y : CasePairs) (t g : Expr) (r : CasePairs) → x ≡ pairs.More t g r → ((u h : Expr) (s : CasePairs) → y ≢ pairs.More u h s) → same_pairs x y ≡ false
no_pairs x y t g r is other = rw (is, is_pair t g r) (pairs_end t g r y other)

-- tests that both, and all three, are to hold
pub then_second : (p q r e : Bool) → e ≡ (p && q) → p ≡ true → r ≡ q → r ≡ e
then_second p q r e is h k = rw (is, h) k

pub not_first : (p q r e : Bool) → e ≡ (p && q) → p ≡ false → r ≡ false → r ≡ e
not_first p q r e is h k = rw (is, k, h) refl

pub then_third : (p q s r e : Bool) → e ≡ (p && q && s) → p ≡ true → q ≡ true → r ≡ s → r ≡ e
then_third p q s r e is h k l = rw (is, h, k) l

pub not_first_of_three : (p q s r e : Bool) → e ≡ (p && q && s) → p ≡ false → r ≡ false → r ≡ e
not_first_of_three p q s r e is h k = rw (is, k, h) refl

pub not_second : (p q s r e : Bool) → e ≡ (p && q && s) → p ≡ true → q ≡ false → r ≡ false → r ≡ e
not_second p q s r e is h k l = rw (is, l, h, k) refl

pub ruleset forms = (both_column, no_column, both_literal, no_literal, both_unary, no_unary, no_binary, no_between, both_one_of, no_one_of, no_case, no_switch, both_coalesce, no_coalesce)
