use Rattle.std.proofs.Common.{◌≡◌, take}
use Rattle.aqe_rules.specs.Plans.{fields_of}
use Rattle.aqe_outputs.specs.Shown.{outputs_seen}
use Rattle.aqe_select.proofs.plans.fields_of.Given as goal

abbrev pub invariant-outputs : goal.invariant-outputs
invariant-outputs l = l.fields ≡ fields_of (outputs_seen (take l.output-index l.outputs))
