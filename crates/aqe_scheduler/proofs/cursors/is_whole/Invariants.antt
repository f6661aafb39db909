use Rattle.std.proofs.Common.{◌≡◌, ◌-◌}
use Rattle.std.specs.List.{list_all, range_with_len}
use Rattle.aqe_scheduler.specs.Looks.{task_count}
use Rattle.aqe_scheduler.specs.Tables.{births_on, done_on}
use Rattle.aqe_scheduler.proofs.cursors.is_whole.Given as goal

-- all tasks are done where those from here on are
abbrev pub invariant-loop-task : goal.invariant-loop-task
invariant-loop-task l = list_all (done_on l.stages l.stage) (range_with_len 0 (task_count (births_on l.stages) l.stage)) ≡
    list_all (done_on l.stages l.stage) (range_with_len l.task (task_count (births_on l.stages) l.stage - l.task))
