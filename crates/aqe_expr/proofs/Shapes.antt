-- The forms of an expression, as the code makes them.
use Rattle.std.proofs.Common.{◌≡◌, refl}
use denote.Hole.Carrier as hole
use Rattle.aqe_expr.specs.declared.expr.CasePairs.TheBlock as b
use Rattle.aqe_expr.specs.declared.expr.UnaryOp.{UnaryOp}
use Rattle.aqe_expr.specs.declared.expr.BinaryOp.{BinaryOp}
use Rattle.aqe_expr.specs.declared.expr.Expr.{Expr}
use Rattle.aqe_expr.specs.declared.expr.Expr.TheVariants.{Unary, Binary, Between, OneOf, Case, Switch}
use Rattle.aqe_expr.specs.declared.expr.Operands.{Operands}
use Rattle.aqe_expr.specs.declared.expr.Operands.TheVariants as list
use Rattle.aqe_expr.specs.declared.expr.CasePairs.{CasePairs}
use Rattle.aqe_expr.specs.declared.expr.CasePairs.TheVariants as pairs
use Rattle.aqe_expr.specs.Shapes.{unary_of, binary_of, between_of, one_of, case_of, switch_of, operand, pair}

pub is_unary : (op : UnaryOp) (arg : Expr) → Unary op arg ≡ unary_of op arg
unfolding b.shape-the_row-Expr-0 b.hidden-the_row-Expr-0 hole.hidden
is_unary op arg = refl

pub is_binary : (op : BinaryOp) (l r : Expr) → Binary op l r ≡ binary_of op l r
unfolding b.shape-the_row-Expr-0 b.hidden-the_row-Expr-0 hole.hidden
is_binary op l r = refl

pub is_between : (v l h : Expr) → Between v l h ≡ between_of v l h
unfolding b.shape-the_row-Expr-0 b.hidden-the_row-Expr-0 hole.hidden
is_between v l h = refl

pub is_one_of : (v : Expr) (l : Operands) → OneOf v l ≡ one_of v l
unfolding b.shape-the_row-Expr-0 b.hidden-the_row-Expr-0 hole.hidden
is_one_of v l = refl

pub is_case : (p : CasePairs) (o : Expr) → Case p o ≡ case_of p o
unfolding b.shape-the_row-Expr-0 b.hidden-the_row-Expr-0 hole.hidden
is_case p o = refl

pub is_switch : (v : Expr) (p : CasePairs) (o : Expr) → Switch v p o ≡ switch_of v p o
unfolding b.shape-the_row-Expr-0 b.hidden-the_row-Expr-0 hole.hidden
is_switch v p o = refl

pub is_operand : (i : Expr) (r : Operands) → list.More i r ≡ operand i r
unfolding b.shape-the_row-Expr-0 b.hidden-the_row-Expr-0 b.shape-the_row-Operands-2 b.hidden-the_row-Operands-2 hole.hidden
is_operand i r = refl

pub is_pair : (t g : Expr) (r : CasePairs) → pairs.More t g r ≡ pair t g r
unfolding b.shape-the_row-Expr-0 b.hidden-the_row-Expr-0 b.shape-the_row-CasePairs-1 b.hidden-the_row-CasePairs-1 hole.hidden
is_pair t g r = refl
