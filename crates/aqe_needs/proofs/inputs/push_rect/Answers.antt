use Rattle.std.proofs.Common.{ap, sym, ◌∙◌, ◌++◌, List, append-nil}
use Rattle.aqe_scheduler.specs.declared.need.Need.{Need}
use Rattle.aqe_needs.proofs.Parts.{pushed, rect_there, rect_missing}
use Rattle.aqe_needs.proofs.inputs.push_rect.Goals as goal

pub returns-in-Some : goal.returns-in-Some
returns-in-Some c =
    pushed c.push.result c.args.found.now c.push.new.self (record { stage = c.args.stage; m0 = c.in-Some.rect.m0; m1 = c.in-Some.rect.m1 }) _
    (rect_there c.args.stage c.args.rects.now c.args.k c.in-Some.rect (sym c.rect_at.ensures ∙ c.in-Some.is)) c.push.ensures

pub returns-in-None : goal.returns-in-None
returns-in-None c =
    sym (append-nil c.args.found.now) ∙ ap (λ (l : List Need). c.args.found.now ++ l) (rect_missing c.args.stage c.args.rects.now c.args.k (sym c.rect_at.ensures ∙ c.in-None.is))
