-- each map that was walked is kept
use Rattle.aqe_task.specs.Pieces.{AreKept}
use Rattle.aqe_task.proofs.reading.count_maps.Given as goal

abbrev pub invariant-maps : goal.invariant-maps
invariant-maps l = AreKept l.outputs l.stage.0 0 l.m
