use Rattle.aqe_spell.proofs.Tables.{place_spelled}
use Rattle.aqe_spell.proofs.table.place.Goals as goal

pub returns : goal.returns
returns c = place_spelled c.in_ok-all_options.ensures c.in_ok-word.ensures c.in_ok-literal.ensures
