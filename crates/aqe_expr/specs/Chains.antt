-- Chains, and the lists of what stands in them.
use Rattle.std.specs.Prelude.{List, [], ◌∷◌}
use Rattle.aqe_expr.specs.declared.expr.Expr.{Expr}
use Rattle.aqe_expr.specs.declared.expr.Operands.{Operands}
use Rattle.aqe_expr.specs.declared.expr.Operands.TheVariants as list
use Rattle.aqe_expr.specs.declared.expr.CasePairs.{CasePairs}
use Rattle.aqe_expr.specs.declared.expr.CasePairs.TheVariants as pairs

-- the chain that begins with the expressions of a list, in their order
abbrev pub in_front : List Expr → Operands → Operands
in_front [] rest = rest
in_front (item ∷ items) rest = list.More item (in_front items rest)

-- the chain that begins with the pairs of a list, in their order
abbrev pub pairs_in_front : List (Expr × Expr) → CasePairs → CasePairs
pairs_in_front [] rest = rest
pairs_in_front (p ∷ ps) rest = pairs.More p.0 p.1 (pairs_in_front ps rest)
