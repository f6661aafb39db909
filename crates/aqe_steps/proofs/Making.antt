-- What the making of a stage comes to.
use Rattle.std.proofs.Common.{◌≡◌, ap, subst, ◌∙◌, ◌<◌, ◌^◌, cond, List, [], ◌∷◌, ◌++◌, length, arith, Some}
use Rattle.aqe_base.specs.declared.stage_id.StageId.{StageId}
use Rattle.aqe_physical.specs.Counts.{PartsFit}
use Rattle.aqe_making.specs.Makings.{Making}
use Rattle.aqe_scheduler.specs.History.{Adds}
use Rattle.aqe_scheduler.specs.Stands.{StandsFor}
use Rattle.aqe_replan.specs.Versions.{plan_after, result_after}
use Rattle.aqe_journal.specs.declared.record.StageNote.{StageNote}
use Rattle.aqe_journal.specs.Needed.{is_result, birth_over}
use Rattle.aqe_needs.specs.Noted.{stage_of, stages_of}
use Rattle.aqe_steps.specs.declared.run.Run.{Run}
use Rattle.aqe_steps.specs.Runs.{IsBorn, Makes, StaysBut, fresh_note, next_number}

pub makes_of : (old new : Run) (making : Making) (note : StageNote) (there : List StageNote) (stage : StageId) → there ≡ old.stages.items → note ≡ fresh_note making.stage (length old.fates) →
    length there < 2 ^ 32 → IsBorn old.board new.board there note stage → new.versions.plan ≡ plan_after stage making old.versions.plan →
    new.versions.has_result ≡ result_after making old.versions.has_result → new.versions.logical ≡ old.versions.logical → PartsFit new.versions.plan → new.stages.items ≡ old.stages.items ++ note ∷ [] →
    new.result ≡ cond (is_result note.kind) (Some stage) old.result → StaysBut old new → Makes old making new
makes_of old new making note there stage same is few born plan has_result logical parts stages result stays =
    let count : length there ≡ length old.stages.items = ap (λ ns. length ns) same in
    let number : stage ≡ next_number old = λ i. record { 0 = (born.number ∙ count) i } in
    record {
      few = omega (arith, few, count);
      plan = plan ∙ ap (λ s. plan_after s making old.versions.plan) number;
      has_result = has_result;
      logical = logical;
      parts = parts;
      stands = λ h s. subst (λ birth. StandsFor new.board (h ++ Adds birth ∷ [])) (λ i. birth_over (stages_of (same i)) (stage_of (is i))) (born.stands h s);
      births = born.births;
      stages = stages ∙ ap (λ n. old.stages.items ++ n ∷ []) is;
      result = result ∙ (λ i. cond (is_result (is i).kind) (Some (number i)) old.result);
      stays = stays;
    }
