use Rattle.aqe_spell.proofs.Tables.{column_spelled}
use Rattle.aqe_spell.proofs.table.column.Goals as goal

pub returns : goal.returns
returns c = column_spelled c.in_ok-name.ensures c.in_ok-type_word.ensures
