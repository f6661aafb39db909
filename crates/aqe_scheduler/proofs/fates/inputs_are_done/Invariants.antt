use Rattle.std.proofs.Common.{◌≡◌, true, take}
use Rattle.aqe_scheduler.specs.Tables.{done_on}
use Rattle.aqe_scheduler.specs.Fates.{has_inputs}
use Rattle.aqe_scheduler.proofs.fates.inputs_are_done.Given as goal

abbrev pub invariant-loop-need : goal.invariant-loop-need
invariant-loop-need l = has_inputs (done_on l.stages) (take l.need-index l.needs) ≡ true
