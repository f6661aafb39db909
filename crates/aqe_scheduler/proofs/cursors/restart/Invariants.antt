use Rattle.std.proofs.Common.{ℕ, ◌<◌, get_or}
use Rattle.aqe_scheduler.specs.Cursors.{AllDone}
use Rattle.aqe_scheduler.proofs.cursors.restart.Given as goal

abbrev pub invariant-loop-stage : goal.invariant-loop-stage
invariant-loop-stage l = (i : ℕ) → i < l.stage → AllDone l.stages i (get_or l.firsts i 0)
