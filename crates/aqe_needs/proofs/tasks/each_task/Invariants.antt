use Rattle.std.proofs.Common.{◌≡◌, map}
use Rattle.std.specs.List.{range_with_len}
use Rattle.aqe_needs.specs.Maps.{task_reads}
use Rattle.aqe_needs.proofs.tasks.each_task.Given as goal

abbrev pub invariant-tasks : goal.invariant-tasks
invariant-tasks l = l.reads ≡ map (task_reads l.counts l.kind l.body) (range_with_len 0 l.k)
