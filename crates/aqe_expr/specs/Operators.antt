-- When two operations are the same.
use Rattle.std.specs.Prelude.{◌≡◌, Bool, true, false}
use Rattle.aqe_expr.specs.declared.expr.UnaryOp.{UnaryOp}
use Rattle.aqe_expr.specs.declared.expr.UnaryOp.TheVariants as unary
use Rattle.aqe_expr.specs.declared.expr.BinaryOp.{BinaryOp}
use Rattle.aqe_expr.specs.declared.expr.BinaryOp.TheVariants as binary
use Rattle.aqe_expr.specs.contracts.expr.UnaryOpPartialEq.TheImpl as unary_eq
use Rattle.aqe_expr.specs.contracts.expr.BinaryOpPartialEq.TheImpl as binary_eq

abbrev pub same_unary : UnaryOp → UnaryOp → Bool
same_unary unary.Neg unary.Neg = true
same_unary unary.Not unary.Not = true
same_unary unary.IsNull unary.IsNull = true
same_unary unary.IsTrue unary.IsTrue = true
same_unary unary.IsFalse unary.IsFalse = true
same_unary unary.Length unary.Length = true
same_unary unary.CastInt unary.CastInt = true
same_unary unary.CastBigInt unary.CastBigInt = true
same_unary unary.CastText unary.CastText = true
same_unary unary.CastBoolean unary.CastBoolean = true
same_unary a b = false

abbrev pub same_binary : BinaryOp → BinaryOp → Bool
same_binary binary.Add binary.Add = true
same_binary binary.Sub binary.Sub = true
same_binary binary.Mul binary.Mul = true
same_binary binary.Rem binary.Rem = true
same_binary binary.Div binary.Div = true
same_binary binary.Eq binary.Eq = true
same_binary binary.Same binary.Same = true
same_binary binary.Ne binary.Ne = true
same_binary binary.Lt binary.Lt = true
same_binary binary.Le binary.Le = true
same_binary binary.Gt binary.Gt = true
same_binary binary.Ge binary.Ge = true
same_binary binary.And binary.And = true
same_binary binary.Or binary.Or = true
same_binary binary.Like binary.Like = true
same_binary a b = false

-- what `==` answers for two operations is whether they are the same
abbrev pub UnaryEqualAsWritten : Type 0
UnaryEqualAsWritten = (a b : UnaryOp) → (unary_eq.ghosts).eq a b ≡ same_unary a b

abbrev pub BinaryEqualAsWritten : Type 0
BinaryEqualAsWritten = (a b : BinaryOp) → (binary_eq.ghosts).eq a b ≡ same_binary a b
