use Rattle.aqe_scheduler.proofs.Edits.{edited_at}
use Rattle.aqe_steps.specs.Endings.{done_at}
use Rattle.aqe_steps.proofs.ending.note_done.Goals as goal

pub returns : goal.returns
returns c =
    rw (← c.index-stages-stage.is)
    (edited_at (done_at c.args.position) c.args.stages.now c.args.stage.0 c.index-stages-stage.result c.requires c.index-stages-stage.is)
