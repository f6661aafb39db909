-- the outputs of the maps before the next one were taken out
use Rattle.aqe_session.proofs.Keeping.{TakenTo}
use Rattle.aqe_session.proofs.record.taken_out.Given as goal

abbrev pub invariant-maps : goal.invariant-maps
invariant-maps l = TakenTo l.fn.outputs l.outputs l.stage.0 l.m l.taken
