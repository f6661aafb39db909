use Rattle.aqe_phrases.proofs.Leaves.{nots_step}
use Rattle.aqe_phrases.proofs.leaf.nots.Goals as goal

pub nots-preserved : goal.nots-preserved
nots-preserved c = nots_step c.nots._turn _ _ _ c.nots.invariant c.in_ok-fixed.ensures
