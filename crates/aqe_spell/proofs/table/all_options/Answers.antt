use Rattle.std.proofs.Common.{rules}
use Rattle.aqe_spell.proofs.Tables.{no_options_spelled, all_options_spelled}
use Rattle.aqe_spell.proofs.table.all_options.Goals as goal

pub returns-in-None : goal.returns-in-None
returns-in-None c = no_options_spelled c.args.pairs.now c.in-None.ensures.cases

pub returns-in_ok-fixed-in-Some-2 : goal.returns-in_ok-fixed-in-Some-2
returns-in_ok-fixed-in-Some-2 c = all_options_spelled c.args.pairs.now (search rules) c.in_ok-word-in-Some.ensures c.in_ok-fixed-in-Some.ensures c.in_ok-options-in-Some.ensures c.in_ok-fixed-in-Some-2.ensures
