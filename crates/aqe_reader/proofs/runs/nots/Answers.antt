use Rattle.aqe_reader.proofs.RunFacts.{nots_begin, nots_step}
use Rattle.aqe_reader.proofs.runs.nots.Goals as goal

pub more-init : goal.more-init
more-init c = nots_begin

pub more-preserved : goal.more-preserved
more-preserved c = nots_step c.more.invariant c.in-Some.ensures
