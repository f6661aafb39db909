use Rattle.std.proofs.Common.{◌≡◌, length}
use Rattle.aqe_rules.specs.Outcomes.{Outcome}
use Rattle.aqe_rules.specs.declared.typed.Typed.{Typed}
use Rattle.aqe_rules.specs.Faults.{Says}
use Rattle.aqe_typing.specs.Values as spec
use Rattle.aqe_typing.proofs.steps.under_signs.Given as goal

abbrev pub invariant-signs : goal.invariant-signs
invariant-signs l = (o : Outcome Typed) → Says l.fn.a o → (q : Outcome Typed) × Says l.value q × (spec.with_signs l.rest q ≡ spec.with_signs l.signs o)

abbrev pub decreases-signs : goal.decreases-signs
decreases-signs l = length l.rest
