-- One more item at the end of a list that stands in front of a chain.
use Rattle.std.proofs.Common.{◌≡◌, List, [], ◌∷◌, ◌++◌, refl, ap}
use Rattle.aqe_expr.specs.declared.expr.Expr.{Expr}
use Rattle.aqe_expr.specs.declared.expr.Operands.{Operands}
use Rattle.aqe_expr.specs.declared.expr.Operands.TheVariants as list
use Rattle.aqe_expr.specs.declared.expr.CasePairs.{CasePairs}
use Rattle.aqe_expr.specs.declared.expr.CasePairs.TheVariants as pairs
use Rattle.aqe_expr.specs.Chains.{in_front, pairs_in_front}

pub in_front_push : (xs : List Expr) (x : Expr) (rest : Operands) → in_front (xs ++ x ∷ []) rest ≡ in_front xs (list.More x rest)
in_front_push [] x rest = refl
in_front_push (y ∷ xs) x rest = ap (λ r. list.More y r) (in_front_push xs x rest)

pub pairs_in_front_push : (xs : List (Expr × Expr)) (t g : Expr) (rest : CasePairs) → pairs_in_front (xs ++ (t, g) ∷ []) rest ≡ pairs_in_front xs (pairs.More t g rest)
pairs_in_front_push [] t g rest = refl
pairs_in_front_push (y ∷ xs) t g rest = ap (λ r. pairs.More y.0 y.1 r) (pairs_in_front_push xs t g rest)
