use Rattle.std.proofs.Common.{◌∙◌}
use Rattle.aqe_ordered.proofs.HidingSteps.{over_steps, not_some, turned}
use Rattle.aqe_ordered.proofs.sorting.is_over.Goals as goal

pub returns : goal.returns
returns c = turned _ c.is_none.result c.is_none.ensures ∙ not_some c.first_missing.result ∙ over_steps c.args.outputs.now c.args.value.now c.first_missing.result c.first_missing.ensures
