-- What a query comes to.
use Rattle.std.specs.Prelude.{◌≡◌, ◌⊎◌, ℕ, Bool, true, false, List, [], ◌∷◌, ◌++◌, map, length, Option, Some, None, All, Result, Ok, Err}
use Rattle.aqe_base.specs.declared.stage_id.StageId.{StageId}
use Rattle.aqe_base.specs.declared.ids.TaskId.{TaskId}
use Rattle.aqe_base.specs.declared.event.Event.{Event}
use Rattle.aqe_base.specs.declared.memory.Memory.{Memory}
use Rattle.aqe_logical.specs.declared.plan.Logical.{Logical}
use Rattle.aqe_logical.specs.Answers.{AnswerOf, Tables, no_stage}
use Rattle.aqe_logical.specs.Nodes.{scans}
use Rattle.aqe_logical.specs.WellFormed.{WellFormed, LeavesFit}
use Rattle.aqe_planner.specs.Built.{IsBuilt}
use Rattle.aqe_settings.specs.declared.entry.Value.{Value}
use Rattle.aqe_settings.specs.Ranges.{InRange}
use Rattle.aqe_tables.specs.Loaded.{Slots}
use Rattle.aqe_estimates.specs.LoadedTables.{tables_of}
use Rattle.aqe_stages.specs.Stands.{StandsFor as VersionStandsFor}
use Rattle.aqe_scheduler.specs.History.{Step}
use Rattle.aqe_scheduler.specs.Looks.{whole}
use Rattle.aqe_scheduler.specs.Rest.{rest_of}
use Rattle.aqe_journal.specs.declared.record.Finish.{Finish}
use Rattle.aqe_journal.specs.declared.record.Finish.TheVariants as finish
use Rattle.aqe_journal.specs.declared.record.QueryRecord.{QueryRecord}
use Rattle.aqe_journal.specs.declared.record.RunNote.{RunNote}
use Rattle.aqe_journal.specs.Asked.{Asked}
use Rattle.aqe_journal.specs.States.{State, history}
use Rattle.aqe_journal.specs.LegalRecord.{Legal, is_done}
use Rattle.aqe_journal.specs.Laws.{IsSound}
use Rattle.aqe_journal.specs.Restrictions.{RunsAlone}
use Rattle.aqe_physical.specs.Counts.{PartsFit}
use Rattle.aqe_calm.specs.Laws.{Reaches}
use Rattle.aqe_session.specs.declared.query.Rest.{Rest}
use Rattle.aqe_session.specs.declared.query.Rest.TheVariants as rest
use Rattle.aqe_session.specs.declared.query.QueryEnd.{QueryEnd}
use Rattle.aqe_session.specs.declared.query.QueryEnd.TheVariants as end
use Rattle.aqe_steps.specs.declared.run.Run.{Run}
use Rattle.aqe_steps.specs.Begun.{Begins}
use Rattle.aqe_steps.specs.Endings.{EndsTask, NotesWhole}
use Rattle.aqe_estimates.specs.Estimates.{HasFiles, estimates_of}
use Rattle.aqe_steps.specs.Runs.{Turns}
use Rattle.aqe_steps.specs.Shows.{Shows}

-- whether the rest is run
abbrev pub runs_rest : Rest → Bool
runs_rest rest.Run = true
runs_rest rest.Stop = false

-- a query as it is asked of a session: its tables have the estimates that are read off them
abbrev pub asked_of : Logical → Slots → List Value → List Event → Rest → Asked
asked_of query slots settings events left = record {
  query = query;
  tables = tables_of slots;
  estimates = estimates_of slots query;
  settings = settings;
  events = events;
  rest_runs = runs_rest left;
}

-- the stage and the task of a run
abbrev pub ran_of : RunNote → StageId × TaskId
ran_of run = (run.stage, run.task)

-- What a query must be to be asked of a session: its plan is well formed, and of the forms that are planned so far; each table that it
-- scans is loaded, with 1 to 1,000 files; and a row of a table has as many values as each scan of it has fields.
pub record CanBeAsked (query : Logical) (slots : Slots) : Type 0 where
  pub built : IsBuilt query
  pub formed : WellFormed query
  pub loaded : All (HasFiles slots) (scans query)
  pub wide : LeavesFit (tables_of slots) no_stage query

-- no events come from a file yet, and the rest is run
abbrev pub IsAlone : List Event → Rest → Type 0
IsAlone events left = (events ≡ []) × (left ≡ rest.Run)

-- what a runner ran grew as the runs that were noted did
abbrev pub HasRunAll : List (StageId × TaskId) → List RunNote → List (StageId × TaskId) → List RunNote → Type 0
HasRunAll old noted new now = (before : List (StageId × TaskId)) → old ≡ before ++ map ran_of noted → new ≡ before ++ map ran_of now

-- whether a stage that was made is whole
abbrev pub is_whole_in : List Step → Option StageId → Bool
is_whole_in h (Some stage) = whole h stage.0
is_whole_in h None = false

-- a session shows a state that a run of the query comes to
pub record Stands (asked : Asked) (run : Run) : Type 0 where
  pub now : State
  pub range : InRange asked.settings
  pub reaches : Reaches asked now
  pub shows : Shows asked now run

-- the same of some query over these tables
pub record IsRunning (tables : Tables) (run : Run) : Type 0 where
  pub asked : Asked
  pub over : asked.tables ≡ tables
  pub stands : Stands asked run

-- and the query is not done
pub record IsOpen (tables : Tables) (run : Run) : Type 0 where
  pub running : IsRunning tables run
  pub undone : is_done running.stands.now ≡ false

-- a task of it may end next
pub record IsNext (tables : Tables) (run : Run) (stage : StageId) (task : TaskId) : Type 0 where
  pub running : IsRunning tables run
  pub next : rest_of (history running.stands.now) ≡ Some (stage.0, task.0)

-- a task ended, and what is done at the position behind it was done
pub record Ends (tables : Tables) (old new : Run) (stage : StageId) (task : TaskId) : Type 0 where
  pub ended : Run
  pub noted : Run
  pub is_turning : Bool
  pub ends : EndsTask tables old ended stage task
  pub notes : NotesWhole ended noted stage is_turning
  pub turns : Turns noted new is_turning

-- whatever query it is over these tables, the session shows a later state of it
abbrev pub Goes : Tables → Run → Run → Type 0
Goes tables old new = (asked : Asked) → asked.tables ≡ tables → (stands : Stands asked old) → is_done stands.now ≡ false → Stands asked new

-- and in the end a state in which the query is done
pub record IsDoneFor (asked : Asked) (run : Run) : Type 0 where
  pub stands : Stands asked run
  pub done : is_done stands.now ≡ true

abbrev pub IsDone : Tables → Run → Run → Type 0
IsDone tables old new = (asked : Asked) → asked.tables ≡ tables → Stands asked old → IsDoneFor asked new

-- the parts of the first plan of a query can be numbered, and the query is sound
pub record IsReadyFor (asked : Asked) (run : Run) : Type 0 where
  pub sound : IsSound asked
  pub alone : RunsAlone asked
  pub range : InRange asked.settings
  pub begins : Begins asked.query asked.estimates asked.settings run
  pub few : PartsFit run.versions.plan

pub record IsReady (tables : Tables) (run : Run) : Type 0 where
  pub asked : Asked
  pub over : asked.tables ≡ tables
  pub ready : IsReadyFor asked run

-- from its first position a query comes to an end at which it is done
abbrev pub CarriesOut : Tables → Run → Run → Type 0
CarriesOut tables old new = (asked : Asked) → asked.tables ≡ tables → IsReadyFor asked old → IsDoneFor asked new

-- A record is legal for a query, and each of its versions stands for it; where the query is done its rows are an answer.
pub record Answers (asked : Asked) (note : QueryRecord) : Type 0 where
  pub legal : Legal note asked
  pub versions : All (λ version. VersionStandsFor asked.tables legal.last.stages version.plan asked.query) note.versions
  pub rows : note.finish ≡ finish.Done → AnswerOf asked.tables asked.query note.rows

-- the record of a query that is done, and what the runner ran for it
pub record IsAnswered (asked : Asked) (query : ℕ) (before after : List (StageId × TaskId)) (note : QueryRecord) : Type 0 where
  pub number : note.query ≡ query
  pub finish : note.finish ≡ finish.Done
  pub answers : Answers asked note
  pub ran : after ≡ before ++ map ran_of note.runs

-- the same of whatever query it is over these tables for which the session is ready
abbrev pub AnswersReady : Tables → Run → ℕ → List (StageId × TaskId) → List (StageId × TaskId) → QueryRecord → Type 0
AnswersReady tables run query before after note = (asked : Asked) → asked.tables ≡ tables → IsReadyFor asked run → IsAnswered asked query before after note

-- a record is added, or memory was wanted and the journal stays
abbrev pub IsAdded : QueryRecord → List QueryRecord → List QueryRecord → QueryEnd → Type 0
IsAdded note old new end.Done = new ≡ old ++ note ∷ []
IsAdded note old new end.Memory = new ≡ old
IsAdded note old new other = ⊥

abbrev pub IsAddedOf : Result QueryRecord Memory → List QueryRecord → List QueryRecord → QueryEnd → Type 0
IsAddedOf (Ok note) old new told = IsAdded note old new told
IsAddedOf (Err memory) old new told = (new ≡ old) × (told ≡ end.Memory)

-- the finish of a record of which a query's end is told
abbrev pub finish_of : QueryEnd → Finish
finish_of end.Done = finish.Done
finish_of (end.Aborted stage task) = finish.Aborted stage task
finish_of (end.StageAborted stage) = finish.StageAborted stage
finish_of (end.Unfinished stage task) = finish.Unfinished stage task
finish_of end.Memory = finish.Memory

-- A record more: the next of the journal, which answers the query and ends as it is told. The runner ran exactly its runs, in order.
pub record Adds (asked : Asked) (old new : List QueryRecord) (before after : List (StageId × TaskId)) (told : QueryEnd) : Type 0 where
  pub note : QueryRecord
  pub grown : new ≡ old ++ note ∷ []
  pub number : note.query ≡ length old
  pub finish : note.finish ≡ finish_of told
  pub answers : Answers asked note
  pub ran : after ≡ before ++ map ran_of note.runs

-- What a query ends with: one record more, unless memory was wanted, where the journal is as it was.
abbrev pub EndsQuery : Asked → List QueryRecord → List QueryRecord → List (StageId × TaskId) → List (StageId × TaskId) → QueryEnd → Type 0
EndsQuery asked old new before after end.Memory = new ≡ old
EndsQuery asked old new before after told = Adds asked old new before after told

-- as no task fails and the rest is run, a query is done, unless memory was wanted
abbrev pub IsDoneOrMemory : QueryEnd → Type 0
IsDoneOrMemory told = (told ≡ end.Done) ⊎ (told ≡ end.Memory)
