-- Which columns an expression reads.
use Rattle.std.specs.Prelude.{ℕ, List, [], ◌∷◌, ◌++◌}
use Rattle.aqe_expr.specs.declared.expr.Expr.{Expr, Column, Literal, Coalesce}
use Rattle.aqe_expr.specs.declared.expr.Operands as list
use Rattle.aqe_expr.specs.declared.expr.CasePairs as pairs
use Rattle.aqe_expr.specs.Shapes.{unary_of, binary_of, between_of, one_of, case_of, switch_of, operand, pair}

-- the numbers of the columns in an expression, as it is read from left to right
abbrev mutual
  pub columns_of : Expr → List ℕ
  columns_of (Column k) = k ∷ []
  columns_of (Literal v) = []
  columns_of (unary_of op arg) = columns_of arg
  columns_of (binary_of op left right) = columns_of left ++ columns_of right
  columns_of (between_of value low high) = columns_of value ++ (columns_of low ++ columns_of high)
  columns_of (one_of value list) = columns_of value ++ columns_in_list list
  columns_of (case_of pairs otherwise) = columns_in_pairs pairs ++ columns_of otherwise
  columns_of (switch_of tested pairs otherwise) = columns_of tested ++ (columns_in_pairs pairs ++ columns_of otherwise)
  columns_of (Coalesce list) = columns_in_list list

  pub columns_in_list : list.Operands → List ℕ
  columns_in_list list.End = []
  columns_in_list (operand item rest) = columns_of item ++ columns_in_list rest

  pub columns_in_pairs : pairs.CasePairs → List ℕ
  columns_in_pairs pairs.End = []
  columns_in_pairs (pair test gives rest) = columns_of test ++ (columns_of gives ++ columns_in_pairs rest)
