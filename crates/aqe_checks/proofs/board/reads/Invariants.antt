use Rattle.std.proofs.Common.{◌≡◌, length}
use Rattle.aqe_checks.proofs.board.reads.Given as goal

abbrev pub invariant-tasks : goal.invariant-tasks
invariant-tasks l = length l.reads ≡ l.counter
