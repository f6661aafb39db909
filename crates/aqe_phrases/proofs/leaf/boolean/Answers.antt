use Rattle.aqe_phrases.proofs.Leaves.{true_spelled, false_spelled}
use Rattle.aqe_phrases.proofs.leaf.boolean.Goals as goal

pub returns-in_ok-fixed : goal.returns-in_ok-fixed
returns-in_ok-fixed c = rw c.if-truth.true (true_spelled c.in_ok-fixed.ensures)

pub returns-in_ok-fixed-2 : goal.returns-in_ok-fixed-2
returns-in_ok-fixed-2 c = rw c.if-truth.false (false_spelled c.in_ok-fixed-2.ensures)
