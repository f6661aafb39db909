use Rattle.std.proofs.Common.{◌≡◌, ◌-◌, flat_map, length}
use Rattle.std.specs.List.{find, range_with_len}
use Rattle.aqe_scheduler.specs.Rest.{may_end, tasks_of, rest_by}
use Rattle.aqe_scheduler.specs.Tables.{births_on, done_on, needed_on}
use Rattle.aqe_scheduler.proofs.rest.next_rest.Given as goal

-- the rest is the first task that may end from this stage on
abbrev pub invariant-loop-stage : goal.invariant-loop-stage
invariant-loop-stage l =
    rest_by (births_on l.stages) (needed_on l.stages) (done_on l.stages) ≡
    find (may_end (births_on l.stages) (needed_on l.stages) (done_on l.stages)) (flat_map (tasks_of (births_on l.stages)) (range_with_len l.stage (length (births_on l.stages) - l.stage)))
