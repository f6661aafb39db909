use Rattle.std.proofs.Common.{◌∙◌, ap, sym, is_some}
use Rattle.aqe_scheduler.specs.Fates.{noted}
use Rattle.aqe_scheduler.specs.Tables.{task_on}
use Rattle.aqe_scheduler.proofs.Behind.{held}
use Rattle.aqe_scheduler.proofs.board.Board.is_available.Goals as goal

pub returns : goal.returns
returns c = λ h stands. c.is_available.ensures ∙ ap (λ b. is_some (task_on b c.args.stage.0 c.args.map.0).on) (c.deref.ensures.value ∙ c.self.view_is)
    ∙ sym (held (noted h) c.args.stage.0 c.args.map.0 (task_on c.args.self.now c.args.stage.0 c.args.map.0).on (stands.tasks c.args.stage.0 c.args.map.0).on)
