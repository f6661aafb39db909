-- The forms of an expression, with the parts that a reader sees.
use Rattle.aqe_values.specs.declared.value.Value.{Value}
use Rattle.aqe_expr.specs.declared.expr.UnaryOp.{UnaryOp}
use Rattle.aqe_expr.specs.declared.expr.BinaryOp.{BinaryOp}
use Rattle.aqe_expr.specs.declared.expr.Expr.{Expr, Unary', Binary', Between', OneOf', Case', Switch', more_of-Expr, end_of-Expr}
use Rattle.aqe_expr.specs.declared.expr.Operands as list
use Rattle.aqe_expr.specs.declared.expr.CasePairs as pairs

-- an operation on one value, and on two
pattern abbrev pub unary_of : UnaryOp → Expr → Expr
unary_of op arg = Unary' op tt (more_of-Expr arg end_of-Expr)

pattern abbrev pub binary_of : BinaryOp → Expr → Expr → Expr
binary_of op left right = Binary' op tt (more_of-Expr left end_of-Expr) tt (more_of-Expr right end_of-Expr)

-- a value between two ends; a value in a list
pattern abbrev pub between_of : Expr → Expr → Expr → Expr
between_of value low high = Between' tt (more_of-Expr value end_of-Expr) tt (more_of-Expr low end_of-Expr) tt (more_of-Expr high end_of-Expr)

pattern abbrev pub one_of : Expr → list.Operands → Expr
one_of value list = OneOf' tt (more_of-Expr value end_of-Expr) list

-- CASE without and with an operand, each with its pairs and its ELSE
pattern abbrev pub case_of : pairs.CasePairs → Expr → Expr
case_of pairs otherwise = Case' pairs tt (more_of-Expr otherwise end_of-Expr)

pattern abbrev pub switch_of : Expr → pairs.CasePairs → Expr → Expr
switch_of operand pairs otherwise = Switch' tt (more_of-Expr operand end_of-Expr) pairs tt (more_of-Expr otherwise end_of-Expr)

-- an expression in front of a list, and a pair in front of the pairs
pattern abbrev pub operand : Expr → list.Operands → list.Operands
operand item rest = list.More' tt (more_of-Expr item end_of-Expr) tt (list.more_of-Operands rest list.end_of-Operands)

pattern abbrev pub pair : Expr → Expr → pairs.CasePairs → pairs.CasePairs
pair test gives rest = pairs.More' tt (more_of-Expr test end_of-Expr) tt (more_of-Expr gives end_of-Expr) tt (pairs.more_of-CasePairs rest pairs.end_of-CasePairs)
