-- Columns of an expression replaced by expressions.
use Rattle.std.specs.Prelude.{List, slice_index_or}
use Rattle.aqe_values.specs.declared.value.Value.TheVariants.{Null}
use Rattle.aqe_expr.specs.declared.expr.Expr.{Expr, Column, Literal, Coalesce}
use Rattle.aqe_expr.specs.declared.expr.Expr.TheVariants as expr
use Rattle.aqe_expr.specs.declared.expr.Operands as list
use Rattle.aqe_expr.specs.declared.expr.Operands.TheVariants as chain
use Rattle.aqe_expr.specs.declared.expr.CasePairs as pairs
use Rattle.aqe_expr.specs.declared.expr.CasePairs.TheVariants as arms
use Rattle.aqe_expr.specs.Shapes.{unary_of, binary_of, between_of, one_of, case_of, switch_of, operand, pair}

-- An expression in which an item of a list stands in the place of each column: the one of the
-- column's number, or NULL where the list has none. All else stays.
abbrev mutual
  pub replaced : List Expr → Expr → Expr
  replaced items (Column k) = slice_index_or items k (Literal Null)
  replaced items (Literal v) = Literal v
  replaced items (unary_of op arg) = expr.Unary op (replaced items arg)
  replaced items (binary_of op left right) = expr.Binary op (replaced items left) (replaced items right)
  replaced items (between_of value low high) = expr.Between (replaced items value) (replaced items low) (replaced items high)
  replaced items (one_of value list) = expr.OneOf (replaced items value) (replaced_list items list)
  replaced items (case_of pairs otherwise) = expr.Case (replaced_pairs items pairs) (replaced items otherwise)
  replaced items (switch_of tested pairs otherwise) = expr.Switch (replaced items tested) (replaced_pairs items pairs) (replaced items otherwise)
  replaced items (Coalesce list) = Coalesce (replaced_list items list)

  pub replaced_list : List Expr → list.Operands → list.Operands
  replaced_list items list.End = list.End
  replaced_list items (operand item rest) = chain.More (replaced items item) (replaced_list items rest)

  pub replaced_pairs : List Expr → pairs.CasePairs → pairs.CasePairs
  replaced_pairs items pairs.End = pairs.End
  replaced_pairs items (pair test gives rest) = arms.More (replaced items test) (replaced items gives) (replaced_pairs items rest)
