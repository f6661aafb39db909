use Rattle.std.proofs.Common.{sym}
use Rattle.aqe_scheduler.specs.Changes.{ending_of}
use Rattle.aqe_scheduler.proofs.Edits.{edited_at, edited_outside}
use Rattle.aqe_scheduler.proofs.settle.end.Goals as goal

pub returns-then-place-stages : goal.returns-then-place-stages
returns-then-place-stages c =
    rw (← c.index-stages-place.is, c.end.ensures, ← c.index-stages-place.is)
    (edited_at (ending_of c.args.task.0 c.args.executor) c.args.stages.now c.args.stage.0 c.index-stages-place.result c.if-place-stages.true c.index-stages-place.is)

pub returns-else-place-stages : goal.returns-else-place-stages
returns-else-place-stages c = sym (edited_outside (ending_of c.args.task.0 c.args.executor) c.args.stages.now c.args.stage.0 c.if-place-stages.false)
