-- the marks before the next one were told
use Rattle.aqe_steps.proofs.Marking.{Told}
use Rattle.aqe_steps.proofs.marks.tell.Given as goal

abbrev pub invariant-marks : goal.invariant-marks
invariant-marks l = Told l.fn.board l.board l.marks l.n
