-- What makes the record of a query legal. A record is legal where a run that keeps the rules below comes to a state in which the
-- query is finished, and the record shows what that state says. The rules stand here in nine parts, each with a name of its own.
use Rattle.std.specs.Prelude.{◌≡◌, ℕ, suc, Bool, true, false, nat_le, List, [], ◌∷◌, map, filter, fold, length, find, Option, Some, None, option_map, slice_get, slice_index_or, ◌&&◌, cond}
use Rattle.std.specs.Option.{option_or}
use Rattle.std.specs.List.{list_any, range_with_len}
use Rattle.aqe_base.specs.declared.event.Event.{Event}
use Rattle.aqe_base.specs.declared.event.Event.TheVariants.{Ended}
use Rattle.aqe_base.specs.declared.ids.MapId.{MapId}
use Rattle.aqe_logical.specs.declared.plan.Logical.{Logical}
use Rattle.aqe_logical.specs.Answers.{Row}
use Rattle.aqe_settings.specs.declared.key.SettingKey.TheVariants as key
use Rattle.aqe_settings.specs.Values.{value_of, number_or}
use Rattle.aqe_physical.specs.declared.plan.Plan.{Plan}
use Rattle.aqe_physical.specs.Counts.{Better}
use Rattle.aqe_stages.specs.Stages.{Stage, Stages}
use Rattle.aqe_stages.specs.Parts.{all, cells}
use Rattle.aqe_scheduler.specs.declared.fate.Fate.TheVariants as fate
use Rattle.aqe_scheduler.specs.History.{Step, Added, Happened}
use Rattle.aqe_scheduler.specs.Looks.{births, counted, fails, streak}
use Rattle.aqe_scheduler.specs.Fates.{fates}
use Rattle.aqe_scheduler.specs.Rest.{places, rest_of, rest_ending}
use Rattle.aqe_fitting.specs.Fits.{Fits}
use Rattle.aqe_making.specs.Makings.{all_makings}
use Rattle.aqe_journal.specs.declared.record.Finish.{Finish}
use Rattle.aqe_journal.specs.declared.record.Finish.TheVariants as finish
use Rattle.aqe_journal.specs.declared.record.RunNote.{RunNote}
use Rattle.aqe_journal.specs.declared.record.StageNote.{StageNote}
use Rattle.aqe_journal.specs.declared.record.VersionNote.{VersionNote}
use Rattle.aqe_journal.specs.declared.record.QueryRecord.{QueryRecord}
use Rattle.aqe_journal.specs.Asked.{Asked}
use Rattle.aqe_journal.specs.Needed.{is_result, map_count}
use Rattle.aqe_journal.specs.States.{State, history, position, is_whole, is_materialised, materialised_at, first_state, with_stage, with_version, with_event, with_marks, is_turning}
use Rattle.aqe_journal.specs.Known.{known_sizes, empty_stages}
use Rattle.aqe_journal.specs.Restrictions.{plans_again, Emptied}

-- 1. The events. A query takes its own events first, in order. Where they are over and the rest is run, the task that may end next
-- ends, and so on, one by one.
abbrev pub rest_event : Bool → List Step → Option Event
rest_event true h = option_map rest_ending (rest_of h)
rest_event false h = None

abbrev pub event_or_rest : Option Event → Bool → List Step → Option Event
event_or_rest (Some event) rest_runs h = Some event
event_or_rest None rest_runs h = rest_event rest_runs h

abbrev pub next_event : Asked → State → Option Event
next_event asked now = event_or_rest (slice_get asked.events (position now)) asked.rest_runs (history now)

-- 2. The first version stands at position 0: its logical plan is the query, and its plan fits the query, of which no sizes are known
-- but the estimates of the tables.
abbrev pub IsFirst : Asked → Plan → Type 0
IsFirst asked plan = Fits plan asked.query asked.estimates [] asked.settings

-- 3. and 5. The stages that can be made at a position are made, one after the other in their order: of the exchanges whose parts are
-- ready, of the samples, and at last of the result. The current plans follow.
abbrev pub has_result : Stages → Bool
has_result stages = list_any (λ (stage : Stage). is_result stage.kind) stages

abbrev pub settled : State → State
settled now = fold with_stage now (all_makings (is_materialised now) (has_result now.stages) now.plan)

-- 4. At a turning point the query is planned again, if adaptive execution is on: the candidate fits what is left of the current logical
-- plan without its empty relations, by the sizes that are known. It is adopted where it is better than the current plan; else all
-- stays.
pub record IsCandidate (asked : Asked) (now : State) (logical : Logical) (plan : Plan) : Type 0 where
  pub emptied : Emptied now.logical (empty_stages asked.tables now) logical
  pub fits : Fits plan logical asked.estimates (known_sizes asked.tables now) asked.settings

pub data PlansAgain (asked : Asked) : State → State → Type 0 where
  never : (now : State) → plans_again asked.settings ≡ false → PlansAgain asked now now
  keeps : (now : State) (logical : Logical) (plan : Plan) → plans_again asked.settings ≡ true →
      IsCandidate asked now logical plan → (Better plan now.plan → ⊥) → PlansAgain asked now now
  adopts : (now : State) (logical : Logical) (plan : Plan) → plans_again asked.settings ≡ true →
      IsCandidate asked now logical plan → Better plan now.plan → PlansAgain asked now (with_version now logical plan)

-- 6. What an event leads to: at a turning point the query is planned again and stages are made; then each stage is marked as needed or
-- not, by the current plan.
pub data Takes (asked : Asked) : State → Event → State → Type 0 where
  goes_on : (now : State) (event : Event) → is_turning now event ≡ false → Takes asked now event (with_marks (with_event now event))
  turns : (now planned : State) (event : Event) → is_turning now event ≡ true →
      PlansAgain asked (with_event now event) planned → Takes asked now event (with_marks (settled planned))

-- 8. How a query ends. It is aborted as soon as a task has failed as often as a task may, or a stage's tasks have failed to fetch as
-- often in a row as they may; it is done as soon as its result stage is whole. No event is taken after that.
abbrev pub failed_task : Asked → List Step → Option (ℕ × ℕ)
failed_task asked h = find (λ place. nat_le (number_or 0 (value_of key.MaxFailures asked.settings)) (fails h place.0 place.1)) (places (births h))

abbrev pub failed_stage : Asked → List Step → Option ℕ
failed_stage asked h = find (λ s. nat_le (number_or 0 (value_of key.MaxAttempts asked.settings)) (streak h s)) (range_with_len 0 (length (births h)))

abbrev pub is_result_in : Option Stage → Bool
is_result_in (Some stage) = is_result stage.kind
is_result_in None = false

abbrev pub is_done : State → Bool
is_done now = list_any (λ s. is_result_in (slice_get now.stages s) && is_whole now s) (range_with_len 0 (length now.stages))

abbrev pub aborted : ℕ × ℕ → Finish
aborted place = finish.Aborted (record { 0 = place.0 }) (record { 0 = place.1 })

abbrev pub stage_aborted : ℕ → Finish
stage_aborted s = finish.StageAborted (record { 0 = s })

abbrev pub unfinished : ℕ × ℕ → Finish
unfinished place = finish.Unfinished (record { 0 = place.0 }) (record { 0 = place.1 })

-- what the query has reached: nothing yet, or one of these three ends
abbrev pub reached : Asked → State → Option Finish
reached asked now =
    option_or (option_map aborted (failed_task asked (history now)))
    (option_or (option_map stage_aborted (failed_stage asked (history now)))
    (cond (is_done now) (Some finish.Done) None))

-- The states that a query's run comes to: it settles at position 0, and takes an event after the other until it has reached an end.
pub data SoFar (asked : Asked) : State → Type 0 where
  begun : (plan : Plan) → IsFirst asked plan → SoFar asked (with_marks (settled (first_state asked.query plan)))
  one_on : (now next : State) (event : Event) → SoFar asked now → reached asked now ≡ None → next_event asked now ≡ Some event →
      Takes asked now event next → SoFar asked next

-- It is finished where it has reached an end. Where its events are over before that and the rest is not run, it stays unfinished at the
-- task that may end next.
pub data Finishes (asked : Asked) (now : State) : Finish → Type 0 where
  at_end : (end : Finish) → reached asked now ≡ Some end → Finishes asked now end
  stopped : (place : ℕ × ℕ) → reached asked now ≡ None → next_event asked now ≡ None → rest_of (history now) ≡ Some place →
      Finishes asked now (unfinished place)

-- 7. The fates are those of the history. The tasks that were run are those of the counted endings, in order. Each stage is noted with
-- the positions at which it was made and was first whole, and with the outputs of its tasks that were counted: their cells are those
-- that the stage has of the map.
abbrev pub runs_from : ℕ → List Step → List RunNote
runs_from n [] = []
runs_from n (Happened (Ended stage task on) fate.Counted ∷ h) = record { position = suc n; stage = stage; task = task } ∷ runs_from (suc n) h
runs_from n (Happened event f ∷ h) = runs_from (suc n) h
runs_from n (other ∷ h) = runs_from n h

abbrev pub births_from : ℕ → List Step → List ℕ
births_from n [] = []
births_from n (Added birth ∷ h) = n ∷ births_from n h
births_from n (Happened event f ∷ h) = births_from (suc n) h
births_from n (other ∷ h) = births_from n h

abbrev pub outputs_of : Asked → State → ℕ → List (MapId × List (List Row))
outputs_of asked now s =
    map (λ m. (record { 0 = m }, slice_index_or (cells asked.tables now.stages s) m []))
    (filter (counted (history now) s) (range_with_len 0 (map_count now.stages s)))

abbrev pub note_of : Asked → State → ℕ → Stage → StageNote
note_of asked now s stage = record {
  kind = stage.kind;
  body = stage.body;
  born = slice_index_or (births_from 0 (history now)) s 0;
  done = materialised_at now s;
  outputs = outputs_of asked now s;
}

abbrev pub notes_from : Asked → State → ℕ → List Stage → List StageNote
notes_from asked now n [] = []
notes_from asked now n (stage ∷ stages) = note_of asked now n stage ∷ notes_from asked now (suc n) stages

-- 9. A query that is done has the rows of the last version's plan, all parts end to end; any other has no rows.
abbrev pub rows_of : Asked → State → List VersionNote → List Row
rows_of asked now [] = []
rows_of asked now (version ∷ []) = all asked.tables now.stages version.plan
rows_of asked now (version ∷ next ∷ later) = rows_of asked now (next ∷ later)

abbrev pub rows_under : Finish → Asked → State → List Row
rows_under finish.Done asked now = rows_of asked now now.versions
rows_under other asked now = []

-- the record of a query of a number that came to a state and ended so
abbrev pub record_of : ℕ → Asked → State → Finish → QueryRecord
record_of query asked now end = record {
  query = query;
  stages = notes_from asked now 0 now.stages;
  versions = now.versions;
  fates = fates (history now);
  runs = runs_from 0 (history now);
  rows = rows_under end asked now;
  finish = end;
}

-- A record is legal where a run comes to a state in which it is finished, and the record shows that state.
pub record Legal (note : QueryRecord) (asked : Asked) : Type 0 where
  pub last : State
  pub runs : SoFar asked last
  pub ends : Finishes asked last note.finish
  pub shows : note ≡ record_of note.query asked last note.finish

-- A record that wanted memory on its way shows a state that the run came to.
pub record LegalTo (note : QueryRecord) (asked : Asked) : Type 0 where
  pub last : State
  pub runs : SoFar asked last
  pub shows : note ≡ record_of note.query asked last finish.Memory
