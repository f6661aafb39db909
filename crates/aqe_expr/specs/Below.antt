-- Which columns an expression reads.
use Rattle.std.specs.Prelude.{ℕ, ◌<◌}
use Rattle.aqe_values.specs.declared.value.Value.{Value}
use Rattle.aqe_expr.specs.declared.expr.Expr.{Expr, Column, Literal, Coalesce}
use Rattle.aqe_expr.specs.declared.expr.Operands as list
use Rattle.aqe_expr.specs.declared.expr.CasePairs as pairs
use Rattle.aqe_expr.specs.Shapes.{unary_of, binary_of, between_of, one_of, case_of, switch_of, operand, pair}

-- each column number in an expression is below n
abbrev mutual
  pub ColumnsBelow : ℕ → Expr → Type 0
  ColumnsBelow n (Column k) = k < n
  ColumnsBelow n (Literal v) = Unit {0}
  ColumnsBelow n (unary_of op arg) = ColumnsBelow n arg
  ColumnsBelow n (binary_of op left right) = ColumnsBelow n left × ColumnsBelow n right
  ColumnsBelow n (between_of value low high) = ColumnsBelow n value × ColumnsBelow n low × ColumnsBelow n high
  ColumnsBelow n (one_of value list) = ColumnsBelow n value × EachBelow n list
  ColumnsBelow n (case_of pairs otherwise) = PairsBelow n pairs × ColumnsBelow n otherwise
  ColumnsBelow n (switch_of tested pairs otherwise) = ColumnsBelow n tested × PairsBelow n pairs × ColumnsBelow n otherwise
  ColumnsBelow n (Coalesce list) = EachBelow n list

  pub EachBelow : ℕ → list.Operands → Type 0
  EachBelow n list.End = Unit {0}
  EachBelow n (operand item rest) = ColumnsBelow n item × EachBelow n rest

  pub PairsBelow : ℕ → pairs.CasePairs → Type 0
  PairsBelow n pairs.End = Unit {0}
  PairsBelow n (pair test gives rest) = ColumnsBelow n test × ColumnsBelow n gives × PairsBelow n rest
