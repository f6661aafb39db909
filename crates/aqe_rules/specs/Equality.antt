-- Equal expressions: the same operations on the same columns and literals.
use Rattle.std.specs.Prelude.{◌==◌, Bool, true, false, ◌&&◌}
use Rattle.aqe_values.specs.Equality.{value_eq}
use Rattle.aqe_expr.specs.contracts.expr.UnaryOpPartialEq.TheImpl as unary_eq
use Rattle.aqe_expr.specs.contracts.expr.BinaryOpPartialEq.TheImpl as binary_eq
use Rattle.aqe_expr.specs.declared.expr.Expr.{Expr, Column, Literal, Coalesce}
use Rattle.aqe_expr.specs.declared.expr.Operands as list
use Rattle.aqe_expr.specs.declared.expr.CasePairs as pairs
use Rattle.aqe_expr.specs.Shapes.{unary_of, binary_of, between_of, one_of, case_of, switch_of, operand, pair}

abbrev mutual
  pub same_expr : Expr → Expr → Bool
  same_expr (Column m) (Column n) = m == n
  same_expr (Literal v) (Literal w) = value_eq v w
  same_expr (unary_of op a) (unary_of oq b) = (unary_eq.ghosts).eq op oq && same_expr a b
  same_expr (binary_of op a b) (binary_of oq c d) = (binary_eq.ghosts).eq op oq && same_expr a c && same_expr b d
  same_expr (between_of a l h) (between_of b m i) = same_expr a b && same_expr l m && same_expr h i
  same_expr (one_of a l) (one_of b m) = same_expr a b && same_list l m
  same_expr (case_of p e) (case_of q f) = same_pairs p q && same_expr e f
  same_expr (switch_of a p e) (switch_of b q f) = same_expr a b && same_pairs p q && same_expr e f
  same_expr (Coalesce l) (Coalesce m) = same_list l m
  same_expr a b = false

  pub same_list : list.Operands → list.Operands → Bool
  same_list list.End list.End = true
  same_list (operand a l) (operand b m) = same_expr a b && same_list l m
  same_list l m = false

  pub same_pairs : pairs.CasePairs → pairs.CasePairs → Bool
  same_pairs pairs.End pairs.End = true
  same_pairs (pair t g p) (pair u h q) = same_expr t u && same_expr g h && same_pairs p q
  same_pairs p q = false
