-- What a session keeps when a task ends.
use Rattle.std.specs.Prelude.{◌≡◌, ℕ, Bool, true, false, List, [], ◌∷◌, ◌++◌, Option, Some, None, length, slice_get}
use Rattle.aqe_base.specs.declared.stage_id.StageId.{StageId}
use Rattle.aqe_base.specs.declared.ids.TaskId.{TaskId}
use Rattle.aqe_blocks.specs.Cells.{CellData}
use Rattle.aqe_blocks.specs.Kept.{Changes, Becomes, HaveCells, kept_of, with_output}
use Rattle.aqe_logical.specs.Answers.{Tables}
use Rattle.aqe_stages.specs.Stages.{Stages}
use Rattle.aqe_task.specs.Built.{IsBuiltBody}
use Rattle.aqe_task.specs.Tasks.{IsServedTask, GivesTask}
use Rattle.aqe_scheduler.specs.declared.fate.Fate.{Fate}
use Rattle.aqe_scheduler.specs.History.{Entry, Happens}
use Rattle.aqe_scheduler.specs.Fates.{fate_of, noted}
use Rattle.aqe_scheduler.specs.Looks.{whole}
use Rattle.aqe_scheduler.specs.Rest.{rest_ending}
use Rattle.aqe_scheduler.specs.Stands.{StandsFor}
use Rattle.aqe_scheduler.specs.Tables.{births_on, edited}
use Rattle.aqe_journal.specs.declared.record.StageNote.{StageNote}
use Rattle.aqe_steps.specs.declared.run.Run.{Run}

-- A task can end: its stage was made, it is served, and its output has as many cells as those that are kept of its stage.
pub record CanEnd (tables : Tables) (run : Run) (stage : StageId) (task : ℕ) : Type 0 where
  pub note : StageNote
  pub there : slice_get run.stages.items stage.0 ≡ Some note
  pub body : IsBuiltBody note.body
  pub stages : Stages
  pub served : IsServedTask tables stages run.outputs note.kind note.body task
  pub alike : (made : List CellData) → GivesTask tables run.outputs note.kind note.body task made → HaveCells (length made) (kept_of run.outputs stage.0)

-- what is kept of a stage and of a task of it
abbrev pub GivesNoted : Tables → Run → Option StageNote → ℕ → List CellData → Type 0
GivesNoted tables run None task made = ⊥
GivesNoted tables run (Some note) task made = GivesTask tables run.outputs note.kind note.body task made

-- A task has ended: its output is kept, and the board took its ending.
pub record EndsTask (tables : Tables) (old new : Run) (stage : StageId) (task : TaskId) : Type 0 where
  pub made : List CellData
  pub fate : Fate
  pub gives : GivesNoted tables old (slice_get old.stages.items stage.0) task.0 made
  pub changes : Changes old.outputs new.outputs stage.0 task.0 (Some made)
  pub becomes : Becomes old.outputs new.outputs stage.0 (with_output (kept_of old.outputs stage.0) task.0 made)
  pub board : (h : List Entry) → StandsFor old.board h →
      (fate ≡ fate_of (noted h) (rest_ending (stage.0, task.0))) × StandsFor new.board (h ++ Happens (rest_ending (stage.0, task.0)) ∷ [])
  pub births : births_on new.board ≡ births_on old.board
  pub fates : new.fates ≡ old.fates ++ fate ∷ []
  pub runs : new.runs ≡ old.runs ++ record { position = length new.fates; stage = stage; task = task } ∷ []
  pub versions : new.versions ≡ old.versions
  pub adopted : new.adopted ≡ old.adopted
  pub stages : new.stages ≡ old.stages
  pub whole : new.whole ≡ old.whole
  pub result : new.result ≡ old.result

-- a note of a stage that is whole first at a position
abbrev pub done_at : ℕ → StageNote → StageNote
done_at position note = record note { done = Some position }

-- what is noted where a stage is whole now, and where it is not
abbrev pub notes_with : Bool → ℕ → ℕ → List StageNote → List StageNote
notes_with true position stage notes = edited stage (done_at position) notes
notes_with false position stage notes = notes

abbrev pub whole_with : Bool → StageId → List StageId → List StageId
whole_with true stage whole = whole ++ stage ∷ []
whole_with false stage whole = whole

-- it was noted whether a stage is whole now
pub record NotesWhole (old new : Run) (stage : StageId) (turned : Bool) : Type 0 where
  pub is : (h : List Entry) → StandsFor old.board h → turned ≡ whole (noted h) stage.0
  pub stages : new.stages.items ≡ notes_with turned (length old.fates) stage.0 old.stages.items
  pub whole : new.whole ≡ whole_with turned stage old.whole
  pub board : new.board ≡ old.board
  pub versions : new.versions ≡ old.versions
  pub adopted : new.adopted ≡ old.adopted
  pub result : new.result ≡ old.result
  pub outputs : new.outputs ≡ old.outputs
  pub fates : new.fates ≡ old.fates
  pub runs : new.runs ≡ old.runs
