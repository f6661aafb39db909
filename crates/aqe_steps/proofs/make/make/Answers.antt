use Rattle.std.proofs.Common.{refl, ap, ◌∙◌}
use Rattle.aqe_steps.specs.Runs.{fresh_note}
use Rattle.aqe_replan.specs.Seen.{seen}
use Rattle.aqe_steps.proofs.Making.{makes_of}
use Rattle.aqe_steps.proofs.make.make.Goals as goal

pub returns : goal.returns
returns c =
    makes_of c.args.run.now _ (seen c.args.making) c.in_ok-note.note c.deref.result.now c.in_ok-stage.stage c.deref.ensures.value (c.in_ok-note.ensures ∙ ap (fresh_note (seen c.args.making).stage) c.len.ensures) c.in_ok-stage.ensures.few c.in_ok-stage.ensures.born
    c.in_ok-made.ensures.plan c.in_ok-made.ensures.result c.in_ok-made.ensures.logical c.in_ok-made.ensures.parts c.in_ok-push.ensures.items c.newest_result-run.ensures
    (record { adopted = refl; whole = refl; outputs = refl; fates = refl; runs = refl })
