-- The parts of a condition.
use Rattle.std.specs.Prelude.{Bool, true, false, List, [], ◌∷◌, ◌++◌}
use Rattle.aqe_expr.specs.declared.expr.Expr.{Expr}
use Rattle.aqe_expr.specs.declared.expr.BinaryOp.{BinaryOp}
use Rattle.aqe_expr.specs.declared.expr.BinaryOp.TheVariants.{And}
use Rattle.aqe_expr.specs.Shapes.{binary_of}

abbrev pub is_and : BinaryOp → Bool
is_and And = true
is_and op = false

-- the conditions that a condition joins by AND at its top, from left to right
abbrev pub parts_of : Expr → List Expr
parts_of (binary_of And left right) = parts_of left ++ parts_of right
parts_of condition = condition ∷ []
