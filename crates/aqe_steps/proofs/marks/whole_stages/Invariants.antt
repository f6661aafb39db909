-- the stages before the next one were asked
use Rattle.aqe_steps.proofs.Marking.{Asked}
use Rattle.aqe_steps.proofs.marks.whole_stages.Given as goal

abbrev pub invariant-stages : goal.invariant-stages
invariant-stages l = Asked l.board l.n l.flags
