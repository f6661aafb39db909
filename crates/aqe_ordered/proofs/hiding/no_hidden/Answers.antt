use Rattle.std.proofs.Common.{rules}
use Rattle.aqe_ordered.proofs.HidingSteps.{missing_told}
use Rattle.aqe_ordered.proofs.hiding.no_hidden.Goals as goal

pub returns-in-Some : goal.returns-in-Some
returns-in-Some c =
    missing_told c.args.outputs.now c.args.value.now c.first_missing.result c.first_missing.ensures c.in-Some.mention c.unknown.result (search rules) c.unknown.ensures
