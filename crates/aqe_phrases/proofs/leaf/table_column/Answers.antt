use Rattle.aqe_phrases.proofs.Leaves.{table_column_spelled}
use Rattle.aqe_phrases.proofs.leaf.table_column.Goals as goal

pub returns : goal.returns
returns c = table_column_spelled c.in_ok-name.ensures c.in_ok-fixed.ensures c.in_ok-name-2.ensures
