use Rattle.std.proofs.Common.{◌∙◌, ap}
use Rattle.aqe_scheduler.specs.Fates.{noted}
use Rattle.aqe_scheduler.specs.Tables.{whole_on}
use Rattle.aqe_scheduler.proofs.Taken.{whole_stands}
use Rattle.aqe_scheduler.proofs.board.Board.is_whole.Goals as goal

pub returns : goal.returns
returns c = λ h stands. c.is_whole.ensures ∙ ap (λ b. whole_on b c.args.stage.0) (c.deref.ensures.value ∙ c.self.view_is)
    ∙ whole_stands c.args.self.now (noted h) stands c.args.stage.0
