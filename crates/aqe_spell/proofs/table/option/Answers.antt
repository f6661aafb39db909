use Rattle.aqe_spell.proofs.Tables.{option_spelled}
use Rattle.aqe_spell.proofs.table.option.Goals as goal

pub returns : goal.returns
returns c = option_spelled c.in_ok-literal.ensures c.in_ok-literal-2.ensures
