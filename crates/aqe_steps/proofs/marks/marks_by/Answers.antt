use Rattle.std.proofs.Common.{◌≡◌, ◌∙◌, ap, length, List, false, slice_index_or}
use Rattle.aqe_scheduler.specs.History.{Entry}
use Rattle.aqe_scheduler.specs.Fates.{noted}
use Rattle.aqe_scheduler.specs.Looks.{whole}
use Rattle.aqe_scheduler.specs.Stands.{StandsFor}
use Rattle.aqe_journal.specs.Needed.{needed_stages}
use Rattle.aqe_needs.specs.Noted.{stages_of}
use Rattle.std.proofs.lemmas.List.{length-map}
use Rattle.aqe_needs.specs.Noted.{stage_of}
use Rattle.aqe_steps.proofs.Marking.{flags_own, marks_many, ok_weaker, ok_all}
use Rattle.aqe_steps.proofs.marks.marks_by.Goals as goal

pub returns-clause-count : goal.returns-clause-count
returns-clause-count c =
    let flags = c.in_ok-whole.whole in
    ok_weaker (λ marks. marks ≡ needed_stages (λ k. slice_index_or flags k false) c.args.plan.now (stages_of c.args.stages.now)) (λ marks. length marks ≡ length c.args.stages.now) c.needed.result
    (λ marks e. ap (λ ms. length ms) e ∙ marks_many (λ k. slice_index_or flags k false) c.args.plan.now 0 (stages_of c.args.stages.now) ∙ length-map c.args.stages.now stage_of)
    (c.needed.ensures (λ k. slice_index_or flags k false) (c.slice.ensures ∙ flags_own flags (length c.args.stages.now) c.in_ok-whole.ensures.count))

pub returns-clause-marks : goal.returns-clause-marks
returns-clause-marks c =
    ok_all (StandsFor c.args.board.now) (λ (h : List Entry) marks. marks ≡ needed_stages (whole (noted h)) c.args.plan.now (stages_of c.args.stages.now)) c.needed.result
    (λ h s. c.needed.ensures (whole (noted h)) (c.slice.ensures ∙ c.in_ok-whole.ensures.asked h s))
