use Rattle.std.proofs.Common.{◌≡◌, ◌++◌, map, take, drop}
use Rattle.aqe_scheduler.specs.Tables.{without}
use Rattle.aqe_scheduler.proofs.task.Tasks.lose.Given as goal

-- the tasks behind are as they were, and the outputs of those before are gone from the executor
abbrev pub invariant-loop-task : goal.invariant-loop-task
invariant-loop-task l = l.task-items ≡ map (without l.executor.0) (take l.task-index l.initial.task-items) ++ drop l.task-index l.initial.task-items
