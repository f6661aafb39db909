-- The laws of runs in which nothing but the rest ends tasks: no events are taken from a file, and the rest is run.
use Rattle.std.specs.Prelude.{ℕ, ◌≡◌, true, false, cond, Some, None, [], slice_get, slice_index_or}
use Rattle.aqe_settings.specs.Ranges.{InRange}
use Rattle.aqe_blocks.specs.Kept.{AllKept, output_at}
use Rattle.aqe_physical.specs.declared.plan.Plan.{Plan}
use Rattle.aqe_stages.specs.Stages.{Stage}
use Rattle.aqe_stages.specs.Parts.{cells}
use Rattle.aqe_stages.specs.Cells.{all_rows}
use Rattle.aqe_scheduler.specs.Looks.{counted}
use Rattle.aqe_scheduler.specs.Rest.{rest_of, rest_ending}
use Rattle.aqe_task.specs.Tasks.{IsServedTask}
use Rattle.aqe_journal.specs.Asked.{Asked}
use Rattle.aqe_journal.specs.Needed.{is_result}
use Rattle.aqe_journal.specs.Restrictions.{RunsAlone}
use Rattle.aqe_journal.specs.States.{State, history, with_event, is_turning, is_whole}
use Rattle.aqe_journal.specs.LegalRecord.{IsFirst, SoFar, is_done, reached, rows_of}
use Rattle.aqe_journal.specs.declared.record.Finish.TheVariants.{Done}
use Rattle.aqe_journal.specs.Laws.{IsSound}
use Rattle.aqe_calm.specs.Calm.{Calm}

-- a state that such a run of a sound query has come to
pub record Reaches (asked : Asked) (now : State) : Type 0 where
  pub sound : IsSound asked
  pub alone : RunsAlone asked
  pub runs : SoFar asked now

-- Each such state is calm, with the first plan that the run began with.
abbrev pub RestRunsAreCalm : Type 0
RestRunsAreCalm = (asked : Asked) (now : State) → Reaches asked now → (first : Plan) × IsFirst asked first × Calm asked first now

-- The position behind the ending of the next task is a turning point exactly where the stage of the task is whole then.
abbrev pub WholeStagesTurn : Type 0
WholeStagesTurn = (asked : Asked) (now : State) (place : ℕ × ℕ) → Reaches asked now → rest_of (history now) ≡ Some place →
    is_turning now (rest_ending place) ≡ is_whole (with_event now (rest_ending place)) place.0

-- Such a run ends in no other way than done, where the settings lie in their ranges.
abbrev pub RestRunsEndDone : Type 0
RestRunsEndDone = (asked : Asked) (now : State) → InRange asked.settings → Reaches asked now → reached asked now ≡ cond (is_done now) (Some Done) None

-- The next task is served where the output of each task that was counted is kept, and no other.
abbrev pub KeepsCounted : Asked → State → AllKept → Type 0
KeepsCounted asked now outputs = (s m : ℕ) →
    output_at outputs s m ≡ cond (counted (history now) s m) (Some (slice_index_or (cells asked.tables now.stages s) m [])) None

abbrev pub NextTasksAreServed : Type 0
NextTasksAreServed = (asked : Asked) (now : State) (place : ℕ × ℕ) (stage : Stage) (outputs : AllKept) → Reaches asked now →
    rest_of (history now) ≡ Some place → slice_get now.stages place.0 ≡ Some stage →
    KeepsCounted asked now outputs → IsServedTask asked.tables now.stages outputs stage.kind stage.body place.1

-- Before the query is done some task may end next.
abbrev pub TasksAreLeft : Type 0
TasksAreLeft = (asked : Asked) (now : State) → Reaches asked now → is_done now ≡ false → rest_of (history now) ≡ None → ⊥

-- The rows of the query are those that a result stage holds, map by map.
abbrev pub ResultsHoldTheRows : Type 0
ResultsHoldTheRows = (asked : Asked) (now : State) (s : ℕ) (stage : Stage) → Reaches asked now → slice_get now.stages s ≡ Some stage → is_result stage.kind ≡ true →
    rows_of asked now now.versions ≡ all_rows (cells asked.tables now.stages s)
