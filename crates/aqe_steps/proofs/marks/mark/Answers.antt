use Rattle.std.proofs.Common.{◌≤◌, ◌^◌, ◌∙◌, ap, sym, refl, subst, length, ◌++◌}
use Rattle.aqe_scheduler.specs.Stands.{StandsFor}
use Rattle.aqe_journal.specs.States.{marks_of}
use Rattle.aqe_scheduler.specs.Fates.{noted}
use Rattle.aqe_scheduler.specs.Looks.{whole}
use Rattle.aqe_journal.specs.Needed.{needed_stages}
use Rattle.aqe_needs.specs.Noted.{stages_of}
use Rattle.aqe_steps.proofs.marks.mark.Goals as goal

pub marks_by-requires : goal.marks_by-requires
marks_by-requires c = subst (λ ns. length ns ≤ 2 ^ 32) (sym c.deref.ensures.value) c.requires.few

pub tell-requires-clause-count : goal.tell-requires-clause-count
tell-requires-clause-count c = ap (λ ms. length ms) c.slice.ensures ∙ c.in_ok-marks.ensures.count ∙ ap (λ ns. length ns) c.deref.ensures.value ∙ sym c.requires.born

pub tell-requires-clause-few : goal.tell-requires-clause-few
tell-requires-clause-few c =
    subst (λ n. n ≤ 2 ^ 32) (sym (ap (λ ms. length ms) c.slice.ensures ∙ c.in_ok-marks.ensures.count ∙ ap (λ ns. length ns) c.deref.ensures.value)) c.requires.few

pub returns : goal.returns
returns c = record {
  stands = λ h s. subst (λ ms. StandsFor c.tell.new.board (h ++ marks_of 0 ms))
      (c.slice.ensures ∙ c.in_ok-marks.ensures.marks h s ∙ (λ i. needed_stages (whole (noted h)) (c.plan.ensures i) (stages_of (c.deref.ensures.value i)))) (c.tell.ensures.stands h s);
  births = c.tell.ensures.births;
  versions = refl;
  stages = refl;
  result = refl;
  stays = record { adopted = refl; whole = refl; outputs = refl; fates = refl; runs = refl };
}
