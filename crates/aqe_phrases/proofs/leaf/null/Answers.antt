use Rattle.aqe_phrases.proofs.Leaves.{null_spelled}
use Rattle.aqe_phrases.proofs.leaf.null.Goals as goal

pub returns : goal.returns
returns c = null_spelled c.in_ok-fixed.ensures
