use Rattle.std.proofs.Common.{◌≡◌}
use Rattle.aqe_outputs.specs.Items.{exprs_of}
use Rattle.aqe_outputs.specs.Shown.{outputs_seen}
use Rattle.aqe_select.proofs.plans.expressions.Given as goal

abbrev pub invariant-outputs : goal.invariant-outputs
invariant-outputs l = l.exprs ≡ exprs_of (outputs_seen l.yielded)
