-- The value of each form of an expression, as the code makes it.
use Rattle.std.proofs.Common.{◌≡◌, List, cond, Some, None, Option, ap, sym, refl, ◌∙◌}
use Rattle.std.specs.Prelude.{unwrap_or, true, false}
use Rattle.aqe_values.specs.declared.value.Value.{Value}
use Rattle.aqe_values.specs.declared.value.Value.TheVariants.{Null}
use Rattle.aqe_expr.specs.declared.expr.UnaryOp.{UnaryOp}
use Rattle.aqe_expr.specs.declared.expr.BinaryOp.{BinaryOp}
use Rattle.aqe_expr.specs.declared.expr.Expr.{Expr}
use Rattle.aqe_expr.specs.declared.expr.Expr.TheVariants.{Unary, Binary, Between, OneOf, Case, Switch}
use Rattle.aqe_expr.specs.declared.expr.Operands.{Operands}
use Rattle.aqe_expr.specs.declared.expr.Operands.TheVariants as list
use Rattle.aqe_expr.specs.declared.expr.CasePairs.{CasePairs}
use Rattle.aqe_expr.specs.declared.expr.CasePairs.TheVariants as pairs
use Rattle.aqe_scalar.specs.Truths.{Truth, truth_value, between, either, equals, is_true, is_known_true, is_null}
use Rattle.aqe_expr.specs.Meaning.{val, unary_value, binary_value, in_list, first_true, first_equal, first_present}
use Rattle.aqe_expr.proofs.Shapes.{is_unary, is_binary, is_between, is_one_of, is_case, is_switch, is_operand, is_pair}

pub val_unary : (row : List Value) (op : UnaryOp) (arg : Expr) → val row (Unary op arg) ≡ unary_value op (val row arg)
val_unary row op arg = ap (val row) (is_unary op arg)

pub val_binary : (row : List Value) (op : BinaryOp) (l r : Expr) → val row (Binary op l r) ≡ binary_value op (val row l) (val row r)
val_binary row op l r = ap (val row) (is_binary op l r)

pub val_between : (row : List Value) (v l h : Expr) → val row (Between v l h) ≡ truth_value (between (val row v) (val row l) (val row h))
val_between row v l h = ap (val row) (is_between v l h)

pub val_one_of : (row : List Value) (v : Expr) (l : Operands) → val row (OneOf v l) ≡ truth_value (in_list row (val row v) l)
val_one_of row v l = ap (val row) (is_one_of v l)

pub val_case : (row : List Value) (p : CasePairs) (o : Expr) → val row (Case p o) ≡ unwrap_or (first_true row p) (val row o)
val_case row p o = ap (val row) (is_case p o)

pub val_switch : (row : List Value) (v : Expr) (p : CasePairs) (o : Expr) → val row (Switch v p o) ≡ unwrap_or (first_equal row (val row v) p) (val row o)
val_switch row v p o = ap (val row) (is_switch v p o)

pub in_list_more : (row : List Value) (v : Value) (i : Expr) (r : Operands) → in_list row v (list.More i r) ≡ either (equals v (val row i)) (in_list row v r)
in_list_more row v i r = ap (in_list row v) (is_operand i r)

pub first_present_more : (row : List Value) (i : Expr) (r : Operands) → first_present row (list.More i r) ≡ cond (is_null (val row i)) (first_present row r) (val row i)
first_present_more row i r = ap (first_present row) (is_operand i r)

pub first_true_more : (row : List Value) (t g : Expr) (r : CasePairs) → first_true row (pairs.More t g r) ≡ cond (is_true (val row t)) (Some (val row g)) (first_true row r)
first_true_more row t g r = ap (first_true row) (is_pair t g r)

pub first_equal_more : (row : List Value) (v : Value) (t g : Expr) (r : CasePairs) → first_equal row v (pairs.More t g r) ≡ cond (is_known_true (equals v (val row t))) (Some (val row g)) (first_equal row v r)
first_equal_more row v t g r = ap (first_equal row v) (is_pair t g r)

pub either_assoc : (a b c : Truth) → either (either a b) c ≡ either a (either b c)
either_assoc (Some true) b c = refl
either_assoc (Some false) b c = refl
either_assoc None (Some true) c = refl
either_assoc None (Some false) c = refl
either_assoc None None (Some true) = refl
either_assoc None None (Some false) = refl
either_assoc None None None = refl

pub either_false : (a : Truth) → either a (Some false) ≡ a
either_false (Some true) = refl
either_false (Some false) = refl
either_false None = refl

-- a walk along the pairs stops at the first that decides, and else goes on behind it
pub first_true_here : (row : List Value) (ps : CasePairs) (t g : Expr) (r : CasePairs) → ps ≡ pairs.More t g r → is_true (val row t) ≡ true → first_true row ps ≡ Some (val row g)
first_true_here row ps t g r e h = rw (e, first_true_more row t g r, h) refl

pub first_true_past : (row : List Value) (ps : CasePairs) (t g : Expr) (r : CasePairs) → ps ≡ pairs.More t g r → is_true (val row t) ≡ false → first_true row ps ≡ first_true row r
first_true_past row ps t g r e h = rw (e, first_true_more row t g r, h) refl

pub first_equal_here : (row : List Value) (v : Value) (ps : CasePairs) (t g : Expr) (r : CasePairs) → ps ≡ pairs.More t g r → is_known_true (equals v (val row t)) ≡ true → first_equal row v ps ≡ Some (val row g)
first_equal_here row v ps t g r e h = rw (e, first_equal_more row v t g r, h) refl

pub first_equal_past : (row : List Value) (v : Value) (ps : CasePairs) (t g : Expr) (r : CasePairs) → ps ≡ pairs.More t g r → is_known_true (equals v (val row t)) ≡ false → first_equal row v ps ≡ first_equal row v r
first_equal_past row v ps t g r e h = rw (e, first_equal_more row v t g r, h) refl

pub first_present_here : (row : List Value) (ls : Operands) (i : Expr) (r : Operands) → ls ≡ list.More i r → is_null (val row i) ≡ false → first_present row ls ≡ val row i
first_present_here row ls i r e h = rw (e, first_present_more row i r, h) refl

pub first_present_past : (row : List Value) (ls : Operands) (i : Expr) (r : Operands) → ls ≡ list.More i r → is_null (val row i) ≡ true → first_present row ls ≡ first_present row r
first_present_past row ls i r e h = rw (e, first_present_more row i r, h) refl

either_true : (a b : Truth) → is_known_true a ≡ true → either a b ≡ a
either_true (Some true) b h = refl
either_true (Some false) b h = absurd (cc)
either_true None b h = absurd (cc)

pub in_list_past : (row : List Value) (v : Value) (ls : Operands) (i : Expr) (r : Operands) (found next : Truth) → ls ≡ list.More i r → next ≡ either found (equals v (val row i)) → either found (in_list row v ls) ≡ either next (in_list row v r)
in_list_past row v ls i r found next e n = rw (e, in_list_more row v i r, n) (sym (either_assoc found (equals v (val row i)) (in_list row v r)))

pub in_list_here : (row : List Value) (v : Value) (ls : Operands) (i : Expr) (r : Operands) (found next : Truth) → ls ≡ list.More i r → next ≡ either found (equals v (val row i)) → is_known_true next ≡ true → either found (in_list row v ls) ≡ next
in_list_here row v ls i r found next e n h = in_list_past row v ls i r found next e n ∙ either_true next (in_list row v r) h
