use Rattle.aqe_phrases.proofs.Expressions.{count_all_spelled}
use Rattle.aqe_phrases.proofs.leaf.count_all.Goals as goal

pub returns : goal.returns
returns c = count_all_spelled c.in_ok-word.ensures c.in_ok-fixed.ensures c.in_ok-fixed-2.ensures c.in_ok-fixed-3.ensures
