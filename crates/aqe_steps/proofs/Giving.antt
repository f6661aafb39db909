-- What a task gives by the note that was looked up.
use Rattle.std.proofs.Common.{◌≡◌, ap, sym, subst, ◌∙◌, ℕ, List, Some, slice_get}
use Rattle.std.specs.Option.{unwrap_or}
use Rattle.aqe_blocks.specs.Cells.{CellData}
use Rattle.aqe_blocks.specs.Kept.{AllKept}
use Rattle.aqe_logical.specs.Answers.{Tables}
use Rattle.aqe_task.specs.Tasks.{GivesTask}
use Rattle.aqe_journal.specs.declared.record.StageNote.{StageNote}

same_note : (notes : List StageNote) (s : ℕ) (a b : StageNote) → slice_get notes s ≡ Some a → slice_get notes s ≡ Some b → a ≡ b
same_note notes s a b x y = ap (λ o. unwrap_or o a) (sym x ∙ y)

-- what a task gives by the note that was looked up
pub gives_noted : (tables : Tables) (outputs : AllKept) (notes there : List StageNote) (s t : ℕ) (a b : StageNote) (made : List CellData) → there ≡ notes → slice_get notes s ≡ Some a → slice_get there s ≡ Some b →
    GivesTask tables outputs b.kind b.body t made → GivesTask tables outputs a.kind a.body t made
gives_noted tables outputs notes there s t a b made e x y gives =
    subst (λ (n : StageNote). GivesTask tables outputs n.kind n.body t made) (sym (same_note notes s a b x (ap (λ ns. slice_get ns s) (sym e) ∙ y))) gives
