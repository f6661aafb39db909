use Rattle.aqe_phrases.proofs.Leaves.{literal_spelled}
use Rattle.aqe_phrases.proofs.leaf.string.Goals as goal

pub returns : goal.returns
returns c = literal_spelled c.in_ok-literal.ensures
