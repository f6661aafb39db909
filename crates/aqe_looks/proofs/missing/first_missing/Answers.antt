use Rattle.std.proofs.Common.{◌∙◌}
use Rattle.aqe_looks.proofs.MissingLevels.{missing_of_all}
use Rattle.aqe_looks.proofs.missing.first_missing.Goals as goal

pub returns : goal.returns
returns c = c.or.ensures ∙ missing_of_all c.args.columns.now c.args.tree.now
