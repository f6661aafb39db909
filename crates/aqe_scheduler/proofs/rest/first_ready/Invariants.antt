use Rattle.std.proofs.Common.{◌≡◌, ◌-◌, map}
use Rattle.std.specs.List.{find, range_with_len}
use Rattle.aqe_scheduler.specs.Looks.{task_count}
use Rattle.aqe_scheduler.specs.Rest.{may_end, tasks_of}
use Rattle.aqe_scheduler.specs.Tables.{births_on, done_on, needed_on}
use Rattle.aqe_scheduler.proofs.rest.first_ready.Given as goal

-- the first of all tasks that may end is the first from here on
abbrev pub invariant-loop-task : goal.invariant-loop-task
invariant-loop-task l =
    find (may_end (births_on l.stages) (needed_on l.stages) (done_on l.stages)) (tasks_of (births_on l.stages) l.stage) ≡
    find (may_end (births_on l.stages) (needed_on l.stages) (done_on l.stages)) (map (λ t. (l.stage, t)) (range_with_len l.task (task_count (births_on l.stages) l.stage - l.task)))
