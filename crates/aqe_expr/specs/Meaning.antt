-- The value of an expression over a row.
use Rattle.std.specs.Prelude.{Bool, true, false, cond, List, Option, Some, None, unwrap_or, slice_index_or}
use Rattle.aqe_values.specs.declared.value.Value.{Value}
use Rattle.aqe_values.specs.declared.value.Value.TheVariants.{Null, Boolean, Int, BigInt, Text}
use Rattle.aqe_values.specs.Equality.{value_eq}
use Rattle.aqe_expr.specs.declared.expr.UnaryOp.{UnaryOp}
use Rattle.aqe_expr.specs.declared.expr.UnaryOp.TheVariants as unary
use Rattle.aqe_expr.specs.declared.expr.BinaryOp.{BinaryOp}
use Rattle.aqe_expr.specs.declared.expr.BinaryOp.TheVariants as binary
use Rattle.aqe_expr.specs.declared.expr.Expr.{Expr, Column, Literal, Coalesce}
use Rattle.aqe_expr.specs.declared.expr.Operands as list
use Rattle.aqe_expr.specs.declared.expr.CasePairs as pairs
use Rattle.aqe_expr.specs.Shapes.{unary_of, binary_of, between_of, one_of, case_of, switch_of, operand, pair}
use Rattle.aqe_scalar.specs.Numbers.{arithmetic, whole_quotient, negated, sum_of, difference_of, product_of, remainder_of}
use Rattle.aqe_scalar.specs.Truths.{Truth, truth_of, truth_value, is_true, is_false, is_null, is_known_true, both, either, opposite, equals, differs, less, greater, at_most, at_least, between}
use Rattle.aqe_scalar.specs.Casts.{as_int, as_bigint, as_text, as_boolean, character_count}
use Rattle.aqe_like.specs.Patterns.{like}

abbrev pub unary_value : UnaryOp → Value → Value
unary_value unary.Neg a = negated a
unary_value unary.Not a = truth_value (opposite (truth_of a))
unary_value unary.IsNull a = Boolean (is_null a)
unary_value unary.IsTrue a = Boolean (is_true a)
unary_value unary.IsFalse a = Boolean (is_false a)
unary_value unary.Length a = character_count a
unary_value unary.CastInt a = as_int a
unary_value unary.CastBigInt a = as_bigint a
unary_value unary.CastText a = as_text a
unary_value unary.CastBoolean a = as_boolean a

-- LIKE is between texts; every other value counts as NULL
abbrev pub like_value : Value → Value → Value
like_value (Text text) (Text pattern) = Boolean (like text pattern)
like_value a b = Null

-- `<=>` is true for two NULLs, false for one, and else as `=`; two types are never the same
abbrev pub binary_value : BinaryOp → Value → Value → Value
binary_value binary.Add a b = arithmetic sum_of a b
binary_value binary.Sub a b = arithmetic difference_of a b
binary_value binary.Mul a b = arithmetic product_of a b
binary_value binary.Rem a b = arithmetic remainder_of a b
binary_value binary.Div a b = whole_quotient a b
binary_value binary.Eq a b = truth_value (equals a b)
binary_value binary.Same a b = Boolean (value_eq a b)
binary_value binary.Ne a b = truth_value (differs a b)
binary_value binary.Lt a b = truth_value (less a b)
binary_value binary.Le a b = truth_value (at_most a b)
binary_value binary.Gt a b = truth_value (greater a b)
binary_value binary.Ge a b = truth_value (at_least a b)
binary_value binary.And a b = truth_value (both (truth_of a) (truth_of b))
binary_value binary.Or a b = truth_value (either (truth_of a) (truth_of b))
binary_value binary.Like a b = like_value a b

-- The value of an expression. A column that the row lacks is NULL.
abbrev mutual
  pub val : List Value → Expr → Value
  val row (Column n) = slice_index_or row n Null
  val row (Literal v) = v
  val row (unary_of op arg) = unary_value op (val row arg)
  val row (binary_of op left right) = binary_value op (val row left) (val row right)
  val row (between_of value low high) = truth_value (between (val row value) (val row low) (val row high))
  val row (one_of value list) = truth_value (in_list row (val row value) list)
  val row (case_of pairs otherwise) = unwrap_or (first_true row pairs) (val row otherwise)
  val row (switch_of tested pairs otherwise) = unwrap_or (first_equal row (val row tested) pairs) (val row otherwise)
  val row (Coalesce list) = first_present row list

  -- `v IN (a, b)` is `v = a OR v = b`; no value is in an empty list
  pub in_list : List Value → Value → list.Operands → Truth
  in_list row v list.End = Some false
  in_list row v (operand item rest) = either (equals v (val row item)) (in_list row v rest)

  -- the result of the first pair whose condition is true
  pub first_true : List Value → pairs.CasePairs → Option Value
  first_true row pairs.End = None
  first_true row (pair test gives rest) = cond (is_true (val row test)) (Some (val row gives)) (first_true row rest)

  -- the result of the first pair whose value equals v
  pub first_equal : List Value → Value → pairs.CasePairs → Option Value
  first_equal row v pairs.End = None
  first_equal row v (pair test gives rest) = cond (is_known_true (equals v (val row test))) (Some (val row gives)) (first_equal row v rest)

  -- the first value that is not NULL
  pub first_present : List Value → list.Operands → Value
  first_present row list.End = Null
  first_present row (operand item rest) = cond (is_null (val row item)) (first_present row rest) (val row item)

-- a condition holds of a row where its value is true, and not where it is false or NULL
abbrev pub holds : Expr → List Value → Bool
holds condition row = is_true (val row condition)
