-- When what a session has come to shows a state that the rules of records know.
use Rattle.std.specs.Prelude.{◌≡◌, ℕ, suc, Bool, false, ◌==◌, cond, List, [], ◌∷◌, Option, Some, None, slice_get, slice_index_or}
use Rattle.aqe_base.specs.declared.stage_id.StageId.{StageId}
use Rattle.aqe_logical.specs.Answers.{Row}
use Rattle.aqe_blocks.specs.Kept.{StageKept, output_at, kept_of, HaveCells}
use Rattle.aqe_stages.specs.Stages.{Stage, Stages}
use Rattle.aqe_stages.specs.Parts.{cells}
use Rattle.aqe_stages.specs.Runnable.{reducers_of}
use Rattle.aqe_scheduler.specs.Looks.{counted}
use Rattle.aqe_scheduler.specs.Fates.{fates}
use Rattle.aqe_scheduler.specs.Stands.{StandsFor}
use Rattle.aqe_replan.specs.Seen.{listed}
use Rattle.aqe_journal.specs.declared.record.StageNote.{StageNote}
use Rattle.aqe_journal.specs.Asked.{Asked}
use Rattle.aqe_journal.specs.States.{State, history, is_materialised, materialised_at}
use Rattle.aqe_journal.specs.LegalRecord.{has_result, is_result_in, runs_from, births_from}
use Rattle.aqe_steps.specs.declared.run.Run.{Run}
use Rattle.aqe_steps.specs.Runs.{IsSteadyRun}

-- whether a stage, if there is one, is the one with a number
abbrev pub is_at : Option StageId → ℕ → Bool
is_at None s = false
is_at (Some stage) s = stage.0 == s

-- the note of a stage in a state, without its outputs
abbrev pub bare_note : State → ℕ → Stage → StageNote
bare_note now s stage = record {
  kind = stage.kind;
  body = stage.body;
  born = slice_index_or (births_from 0 (history now)) s 0;
  done = materialised_at now s;
  outputs = [];
}

-- the notes of stages, of which the first has number n
abbrev pub noted_from : (ℕ → Stage → StageNote) → ℕ → Stages → List StageNote
noted_from note n [] = []
noted_from note n (stage ∷ stages) = note n stage ∷ noted_from note (suc n) stages

-- what is kept of a map: the cells that its stage has of it, once its task was counted
abbrev pub kept_in : Asked → State → ℕ → ℕ → Option (List (List Row))
kept_in asked now s m = cond (counted (history now) s m) (Some (slice_index_or (cells asked.tables now.stages s) m [])) None

-- each output that is kept of a stage has a cell for each reducer; of a stage that is not there none is kept
abbrev pub KeptOf : Option Stage → StageKept → Type 0
KeptOf None kept = kept ≡ []
KeptOf (Some stage) kept = HaveCells (reducers_of stage.kind) kept

-- All that a session keeps is what the state says.
pub record Shows (asked : Asked) (now : State) (run : Run) : Type 0 where
  pub steady : IsSteadyRun run
  pub plan : run.versions.plan ≡ now.plan
  pub has_result : run.versions.has_result ≡ has_result now.stages
  pub adopted : run.adopted ≡ now.versions
  pub board : StandsFor run.board now.entries
  pub stages : run.stages.items ≡ noted_from (bare_note now) 0 now.stages
  pub whole : (s : ℕ) → listed run.whole s ≡ is_materialised now s
  pub result : (s : ℕ) → is_result_in (slice_get now.stages s) ≡ is_at run.result s
  pub outputs : (s m : ℕ) → output_at run.outputs s m ≡ kept_in asked now s m
  pub cells : (s : ℕ) → KeptOf (slice_get now.stages s) (kept_of run.outputs s)
  pub fates : run.fates ≡ fates (history now)
  pub runs : run.runs ≡ runs_from 0 (history now)
