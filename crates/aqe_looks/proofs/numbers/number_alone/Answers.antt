use Rattle.std.proofs.Common.{◌∙◌}
use Rattle.aqe_looks.proofs.NumbersAlone.{number_at_all}
use Rattle.aqe_looks.proofs.numbers.number_alone.Goals as goal

pub returns : goal.returns
returns c = c.or.ensures ∙ number_at_all c.args.tree.now
