use Rattle.aqe_endings.proofs.Marks.{mark_again}
use Rattle.aqe_endings.proofs.laws.marks_may_repeat.Goals as goal

pub returns : goal.returns
returns c = mark_again
