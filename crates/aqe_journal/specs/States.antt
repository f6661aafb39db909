-- What a query's run has come to at a position, and what its history says.
use Rattle.std.specs.Prelude.{ℕ, suc, Bool, not, ◌&&◌, List, [], ◌∷◌, ◌++◌, length, find, Option}
use Rattle.std.specs.List.{list_any, range_with_len}
use Rattle.aqe_base.specs.declared.event.Event.{Event}
use Rattle.aqe_base.specs.declared.stage_id.StageId.{StageId}
use Rattle.aqe_logical.specs.declared.plan.Logical.{Logical}
use Rattle.aqe_physical.specs.declared.plan.Plan.{Plan}
use Rattle.aqe_stages.specs.Stages.{Stages}
use Rattle.aqe_making.specs.Makings.{Making}
use Rattle.aqe_making.specs.After.{after}
use Rattle.aqe_making.specs.Held.{logical_after}
use Rattle.aqe_scheduler.specs.History.{Entry, Adds, Marks, Happens, Step}
use Rattle.aqe_scheduler.specs.Looks.{whole}
use Rattle.aqe_scheduler.specs.Positions.{upto}
use Rattle.aqe_scheduler.specs.Fates.{noted, fates}
use Rattle.aqe_journal.specs.declared.record.VersionNote.{VersionNote}
use Rattle.aqe_journal.specs.Needed.{birth_over, needed_stages}

-- The current logical plan and the current plan, the versions that were adopted so far, the stages that were made so far, and what
-- came so far: births of stages, marks of need, and events.
pub record State : Type 0 where
  pub logical : Logical
  pub plan : Plan
  pub versions : List VersionNote
  pub stages : Stages
  pub entries : List Entry

-- what came, where each event has its fate
abbrev pub history : State → List Step
history now = noted now.entries

-- a position counts the events so far: 0 is before the first one, and i just after the i-th
abbrev pub position : State → ℕ
position now = length (fates (history now))

-- whether all tasks of a stage are done at this position
abbrev pub is_whole : State → ℕ → Bool
is_whole now s = whole (history now) s

-- the positions up to this one
abbrev pub positions : State → List ℕ
positions now = range_with_len 0 (suc (position now))

-- a stage is materialised from the first position on at which it is whole, also where an output of it is lost later
abbrev pub is_materialised : State → ℕ → Bool
is_materialised now s = list_any (λ k. whole (upto k (history now)) s) (positions now)

-- the first position at which a stage is whole, if there is one
abbrev pub materialised_at : State → ℕ → Option ℕ
materialised_at now s = find (λ k. whole (upto k (history now)) s) (positions now)

-- the state before anything happens, with the first version of a query's plan
abbrev pub first_state : Logical → Plan → State
first_state query plan = record {
  logical = query;
  plan = plan;
  versions = record { position = 0; logical = query; plan = plan } ∷ [];
  stages = [];
  entries = [];
}

-- A stage more, which takes the next number. In the current plan its exchange becomes its plain read, and a range names its sample;
-- in the current logical plan a leaf that the stage holds stands in its place. Of the result both plans stay.
abbrev pub number_of : ℕ → StageId
number_of n = record { 0 = n }

abbrev pub with_stage : State → Making → State
with_stage now making = record now {
  logical = logical_after (number_of (length now.stages)) now.logical making.place now.plan;
  plan = after (number_of (length now.stages)) making.place now.plan;
  stages = now.stages ++ making.stage ∷ [];
  entries = now.entries ++ Adds (birth_over now.stages making.stage) ∷ [];
}

-- a version more
abbrev pub with_version : State → Logical → Plan → State
with_version now logical plan = record now {
  logical = logical;
  plan = plan;
  versions = now.versions ++ record { position = position now; logical = logical; plan = plan } ∷ [];
}

-- an event more
abbrev pub with_event : State → Event → State
with_event now event = record now { entries = now.entries ++ Happens event ∷ [] }

-- marks for the stages from a number on
abbrev pub marks_of : ℕ → List Bool → List Entry
marks_of n [] = []
marks_of n (is_needed ∷ later) = Marks n is_needed ∷ marks_of (suc n) later

-- a mark more for each stage, in order: whether it is needed at this position
abbrev pub with_marks : State → State
with_marks now = record now { entries = now.entries ++ marks_of 0 (needed_stages (is_whole now) now.plan now.stages) }

-- whether an event makes a stage whole for the first time: then the position after it is a turning point
abbrev pub is_turning : State → Event → Bool
is_turning now event =
    list_any (λ s. is_whole (with_event now event) s && not (is_materialised now s)) (range_with_len 0 (length now.stages))
