use Rattle.std.proofs.Common.{◌≡◌, ◌++◌, map}
use Rattle.aqe_rules.specs.Plans.{hidden_output}
use Rattle.aqe_outputs.specs.Shown.{outputs_seen}
use Rattle.aqe_select.proofs.plans.with_hidden_columns.Given as goal

abbrev pub invariant-hidden : goal.invariant-hidden
invariant-hidden l = outputs_seen l.all ≡ outputs_seen l.fn.outputs ++ map hidden_output l.yielded
