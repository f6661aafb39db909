use Rattle.aqe_scheduler.specs.Cursors.{AllDone}
use Rattle.aqe_scheduler.proofs.cursors.first_open.Given as goal

abbrev pub invariant-loop-task : goal.invariant-loop-task
invariant-loop-task l = AllDone l.stages l.stage l.from → AllDone l.stages l.stage l.task
