-- Signs and NOTs, one by one.
use Rattle.std.proofs.Common.{◌≡◌, List, [], ◌∷◌, ◌++◌, refl, ap}
use Rattle.aqe_trees.specs.declared.expression.Sign.{Sign}
use Rattle.aqe_rules.specs.Outcomes.{Outcome, upon}
use Rattle.aqe_rules.specs.Operations.{signed_operation}
use Rattle.aqe_rules.specs.declared.typed.Typed.{Typed}
use Rattle.aqe_typing.specs.Values.{with_signs}

pub innermost_sign : (signs : List Sign) (sign : Sign) (o : Outcome Typed) → with_signs (signs ++ sign ∷ []) o ≡ with_signs signs (upon o (signed_operation sign))
innermost_sign [] sign o = refl
innermost_sign (first ∷ signs) sign o = ap (λ (p : Outcome Typed). upon p (signed_operation first)) (innermost_sign signs sign o)
