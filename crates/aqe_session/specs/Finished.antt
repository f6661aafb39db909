-- The record that a session makes of a query that is done.
use Rattle.std.specs.Prelude.{◌≡◌, ◌≢◌, ◌<◌, ℕ, suc, Option, Some, None, IsSome, List, [], ◌∷◌, filter_map, flat_map, length, slice_get, slice_index_or}
use Rattle.std.specs.List.{range_with_len}
use Rattle.std.specs.Option.{unwrap_or, option_map}
use Rattle.aqe_base.specs.declared.ids.MapId.{MapId}
use Rattle.aqe_base.specs.declared.stage_id.StageId.{StageId}
use Rattle.aqe_blocks.specs.Cells.{CellData}
use Rattle.aqe_blocks.specs.Kept.{AllKept, output_at}
use Rattle.aqe_logical.specs.Answers.{Row}
use Rattle.aqe_physical.specs.Counts.{part_count}
use Rattle.aqe_journal.specs.declared.record.Finish.TheVariants.{Done}
use Rattle.aqe_scheduler.specs.declared.fate.Fate.{Fate}
use Rattle.aqe_journal.specs.declared.record.RunNote.{RunNote}
use Rattle.aqe_journal.specs.declared.record.StageNote.{StageNote}
use Rattle.aqe_journal.specs.declared.record.VersionNote.{VersionNote}
use Rattle.aqe_journal.specs.declared.record.QueryRecord.{QueryRecord}
use Rattle.aqe_steps.specs.declared.run.Run.{Run}
use Rattle.aqe_steps.specs.Runs.{IsSteadyRun}

-- the first cell of the output of a map
abbrev pub first_cell : AllKept → ℕ → ℕ → List Row
first_cell outputs s m = slice_index_or (unwrap_or (output_at outputs s m) []) 0 []

-- the output of a map behind its number, if it is kept
abbrev pub kept_at : AllKept → ℕ → ℕ → Option (MapId × List CellData)
kept_at outputs s m = option_map (λ cells. (record { 0 = m }, cells)) (output_at outputs s m)

-- the outputs of all other stages stay
abbrev pub OthersStay : AllKept → AllKept → ℕ → Type 0
OthersStay old new stage = (s m : ℕ) → s ≢ stage → output_at new s m ≡ output_at old s m

-- a note with the outputs that are kept of its stage
abbrev pub filled : AllKept → ℕ → StageNote → StageNote
filled outputs s note = record note { outputs = filter_map (kept_at outputs s) (range_with_len 0 (part_count note.body)) }

abbrev pub all_filled : AllKept → ℕ → List StageNote → List StageNote
all_filled outputs n [] = []
all_filled outputs n (note ∷ notes) = filled outputs n note ∷ all_filled outputs (suc n) notes

-- the number of maps of a stage
abbrev pub maps_in : Option StageNote → ℕ
maps_in (Some note) = part_count note.body
maps_in None = 0

abbrev pub maps_of : List StageNote → ℕ → ℕ
maps_of notes s = maps_in (slice_get notes s)

-- the rows of the result stage
abbrev pub rows_at : Run → Option StageId → List Row
rows_at run (Some stage) = flat_map (first_cell run.outputs stage.0) (range_with_len 0 (maps_of run.stages.items stage.0))
rows_at run None = []

abbrev pub result_rows : Run → List Row
result_rows run = rows_at run run.result

-- the outputs of the result stage are all kept
abbrev pub ResultIsKept : Run → Option StageId → Type 0
ResultIsKept run None = Unit {0}
ResultIsKept run (Some stage) =
    (stage.0 < length run.stages.items) × ((m : ℕ) → m < maps_of run.stages.items stage.0 → IsSome (output_at run.outputs stage.0 m))

pub record CanFinish (run : Run) : Type 0 where
  pub steady : IsSteadyRun run
  pub kept : ResultIsKept run run.result

-- the record of a query of a number that is done
abbrev pub recorded : ℕ → List VersionNote → List Fate → List RunNote → List Row → List StageNote → QueryRecord
recorded query versions fates runs rows stages = record {
  query = query;
  stages = stages;
  versions = versions;
  fates = fates;
  runs = runs;
  rows = rows;
  finish = Done;
}

abbrev pub record_with : ℕ → Run → List Row → QueryRecord
record_with query run rows = recorded query run.adopted run.fates run.runs rows (all_filled run.outputs 0 run.stages.items)

abbrev pub record_of : ℕ → Run → QueryRecord
record_of query run = record_with query run (result_rows run)
