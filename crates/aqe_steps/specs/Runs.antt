-- How the steps of a session change what it has come to.
use Rattle.std.specs.Prelude.{◌≡◌, ◌≤◌, ◌^◌, ℕ, suc, cond, Bool, true, false, List, [], ◌∷◌, ◌++◌, Option, Some, None, length}
use Rattle.aqe_base.specs.declared.stage_id.StageId.{StageId}
use Rattle.aqe_stages.specs.Stages.{Stage, Stages}
use Rattle.aqe_physical.specs.Counts.{PartsFit}
use Rattle.aqe_making.specs.Makings.{Making}
use Rattle.aqe_scheduler.specs.declared.stage.Stage.{Stage as BoardStage}
use Rattle.aqe_scheduler.specs.History.{Entry, Adds}
use Rattle.aqe_scheduler.specs.Fates.{noted}
use Rattle.aqe_scheduler.specs.Looks.{whole}
use Rattle.aqe_scheduler.specs.Stands.{StandsFor}
use Rattle.aqe_scheduler.specs.Tables.{births_on}
use Rattle.aqe_replan.specs.Seen.{listed}
use Rattle.aqe_replan.specs.Versions.{ready_of, CanBeMade, plan_after, result_after}
use Rattle.aqe_journal.specs.declared.record.StageNote.{StageNote}
use Rattle.aqe_journal.specs.Needed.{is_result, birth_over, needed_stages}
use Rattle.aqe_journal.specs.States.{marks_of}
use Rattle.aqe_needs.specs.Noted.{stage_of, stages_of, BodiesFit}
use Rattle.aqe_steps.specs.declared.run.Run.{Run}

-- the note of a stage that is made at a position, of which no task has ended
abbrev pub fresh_note : Stage → ℕ → StageNote
fresh_note stage born = record { kind = stage.kind; body = stage.body; born = born; done = None; outputs = [] }

-- the number of the next stage
abbrev pub next_number : Run → StageId
next_number run = record { 0 = length run.stages.items }

-- the stages that were made
abbrev pub made_stages : Run → Stages
made_stages run = stages_of run.stages.items

-- Numbers have room, the board knows the stages, and none is whole that was not made.
pub record IsSteadyRun (run : Run) : Type 0 where
  pub born : length (births_on run.board) ≡ length run.stages.items
  pub few : length run.stages.items ≤ 2 ^ 32
  pub parts : PartsFit run.versions.plan
  pub bodies : BodiesFit run.stages.items
  pub fresh : (n : ℕ) → length run.stages.items ≤ n → listed run.whole n ≡ false

-- a stage that can be made of the current plan
pub record CanMake (run : Run) (making : Making) : Type 0 where
  pub steady : IsSteadyRun run
  pub can : CanBeMade run.versions.plan making
  pub body : PartsFit making.stage.body

-- a stage more is on the board, with what each of its tasks reads
pub record IsBorn (old new : List BoardStage) (stages : List StageNote) (note : StageNote) (id : StageId) : Type 0 where
  pub number : id.0 ≡ length stages
  pub stands : (h : List Entry) → StandsFor old h → StandsFor new (h ++ Adds (birth_over (stages_of stages) (stage_of note)) ∷ [])
  pub births : length (births_on new) ≡ suc (length (births_on old))

-- the result, where the stage that is made is one
abbrev pub result_with : StageId → Making → Option StageId → Option StageId
result_with number making before = cond (is_result making.stage.kind) (Some number) before

-- what no making and no mark changes
pub record StaysBut (old new : Run) : Type 0 where
  pub adopted : new.adopted ≡ old.adopted
  pub whole : new.whole ≡ old.whole
  pub outputs : new.outputs ≡ old.outputs
  pub fates : new.fates ≡ old.fates
  pub runs : new.runs ≡ old.runs

-- a stage more was made
pub record Makes (old : Run) (making : Making) (new : Run) : Type 0 where
  pub few : suc (length old.stages.items) ≤ 2 ^ 32
  pub plan : new.versions.plan ≡ plan_after (next_number old) making old.versions.plan
  pub has_result : new.versions.has_result ≡ result_after making old.versions.has_result
  pub logical : new.versions.logical ≡ old.versions.logical
  pub parts : PartsFit new.versions.plan
  pub stands : (h : List Entry) → StandsFor old.board h → StandsFor new.board (h ++ Adds (birth_over (made_stages old) making.stage) ∷ [])
  pub births : length (births_on new.board) ≡ suc (length (births_on old.board))
  pub stages : new.stages.items ≡ old.stages.items ++ fresh_note making.stage (length old.fates) ∷ []
  pub result : new.result ≡ result_with (next_number old) making old.result
  pub stays : StaysBut old new

-- a steady run, of which these stages can be made, one after the other
pub record Ready (run : Run) (rest : List Making) : Type 0 where
  pub steady : IsSteadyRun run
  pub ready : ready_of run.whole run.versions ≡ rest

-- stages were made, one after the other, each as the first of those that could be made
pub data MakesAll (old : Run) : List Making → Run → Type 0 where
  none : MakesAll old [] old
  one_more : (makings : List Making) (making : Making) (rest : List Making) (run new : Run) → MakesAll old makings run → Ready run (making ∷ rest) → Makes run making new →
      MakesAll old (makings ++ making ∷ []) new

-- each stage was marked as needed or not
pub record Marks (old new : Run) : Type 0 where
  pub stands : (h : List Entry) → StandsFor old.board h →
      StandsFor new.board (h ++ marks_of 0 (needed_stages (whole (noted h)) old.versions.plan (made_stages old)))
  pub births : births_on new.board ≡ births_on old.board
  pub versions : new.versions ≡ old.versions
  pub stages : new.stages ≡ old.stages
  pub result : new.result ≡ old.result
  pub stays : StaysBut old new

-- where a position is a turning point stages were made; then each stage was marked
abbrev pub MakesIf : Bool → Run → Run → Type 0
MakesIf true old new = MakesAll old (ready_of old.whole old.versions) new
MakesIf false old new = old ≡ new

pub record Turns (old new : Run) (is_turning : Bool) : Type 0 where
  pub between : Run
  pub makes : MakesIf is_turning old between
  pub marks : Marks between new
