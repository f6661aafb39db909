use Rattle.std.proofs.Common.{◌∙◌, ap}
use Rattle.aqe_scheduler.specs.Fates.{noted}
use Rattle.aqe_scheduler.specs.Rest.{rest_by}
use Rattle.aqe_scheduler.specs.Tables.{births_on, needed_on, done_on}
use Rattle.aqe_scheduler.proofs.Taken.{rest_stands}
use Rattle.aqe_scheduler.proofs.board.Board.next_rest.Goals as goal

pub returns-in-Some : goal.returns-in-Some
returns-in-Some c = λ h stands. c.in-Some.ensures.first ∙ ap (λ b. rest_by (births_on b) (needed_on b) (done_on b)) (c.deref.ensures.value ∙ c.self.view_is)
    ∙ rest_stands c.args.self.now (noted h) stands

pub returns-in-None : goal.returns-in-None
returns-in-None c = λ h stands. c.in-None.ensures.first ∙ ap (λ b. rest_by (births_on b) (needed_on b) (done_on b)) (c.deref.ensures.value ∙ c.self.view_is)
    ∙ rest_stands c.args.self.now (noted h) stands
