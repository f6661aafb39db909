use Rattle.aqe_phrases.proofs.Leaves.{column_spelled}
use Rattle.aqe_phrases.proofs.leaf.column.Goals as goal

pub returns : goal.returns
returns c = column_spelled c.in_ok-name.ensures
