use Rattle.std.proofs.Common.{arith, ◌<◌, ◌∙◌, ap, length, set, get_or}
use Rattle.std.proofs.lemmas.List.Edits.{map_over_more}
use Rattle.aqe_scheduler.specs.Tables.{without, fresh}
use Rattle.aqe_scheduler.proofs.Edits.{any_default}
use Rattle.aqe_scheduler.proofs.task.Tasks.lose.Goals as goal

pub loop-task-preserved : goal.loop-task-preserved
loop-task-preserved c =
    let below : c.loop-task.task-index < length c.loop-task.task-items = omega arith in
    ap (λ y. set c.loop-task.task-items c.loop-task.task-index y) c.bare.ensures
    ∙ map_over_more (without c.args.executor.0) c.deref_mut-task-items.result.now c.loop-task.task-items c.loop-task.task-index _ c.loop-task-test.true c.loop-task.invariant
    (any_default c.loop-task.task-items c.loop-task.task-index fresh (get_or c.loop-task.task-items c.loop-task.task-index fresh) below)
