use Rattle.aqe_reader.proofs.RunFacts.{signs_begin, signs_step}
use Rattle.aqe_reader.proofs.runs.signs.Goals as goal

pub more-init : goal.more-init
more-init c = rw c.new-signs.ensures signs_begin

pub more-preserved : goal.more-preserved
more-preserved c = let h = c.in-Some.ensures in rw c.in_ok-push.ensures.ok (signs_step c.more.invariant h.1 h.2)
