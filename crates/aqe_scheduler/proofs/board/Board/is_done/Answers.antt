use Rattle.std.proofs.Common.{◌∙◌, ap}
use Rattle.aqe_scheduler.specs.Fates.{noted}
use Rattle.aqe_scheduler.specs.Tables.{done_on}
use Rattle.aqe_scheduler.proofs.Taken.{done_stands}
use Rattle.aqe_scheduler.proofs.board.Board.is_done.Goals as goal

pub returns : goal.returns
returns c = λ h stands. c.is_done.ensures ∙ ap (λ b. done_on b c.args.stage.0 c.args.task.0) (c.deref.ensures.value ∙ c.self.view_is)
    ∙ done_stands c.args.self.now (noted h) stands c.args.stage.0 c.args.task.0
