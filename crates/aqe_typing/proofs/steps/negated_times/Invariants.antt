use Rattle.aqe_rules.specs.Outcomes.{Outcome}
use Rattle.aqe_rules.specs.declared.typed.Typed.{Typed}
use Rattle.aqe_rules.specs.Faults.{Says}
use Rattle.aqe_typing.specs.Values as spec
use Rattle.aqe_typing.proofs.steps.negated_times.Given as goal

abbrev pub invariant-times : goal.invariant-times
invariant-times l = (o : Outcome Typed) → Says l.fn.a o → Says l.value (spec.not_times l.counter o)
