-- What comes to the board of a query, in order: stages that are born, marks of need, and events.
use Rattle.std.specs.Prelude.{ℕ, Bool, List}
use Rattle.aqe_base.specs.declared.event.Event.{Event}
use Rattle.aqe_scheduler.specs.declared.fate.Fate.{Fate}
use Rattle.aqe_scheduler.specs.declared.need.StageKindTag.{StageKindTag}
use Rattle.aqe_scheduler.specs.declared.need.Need.{Need}

-- a stage that is born: its kind, and for each of its tasks what the task reads
pub record Birth : Type 0 where
  pub kind : StageKindTag
  pub reads : List (List Need)

-- What comes. Stages are numbered from 0 in the order of their births; a mark says of a stage whether it is needed from now on. An
-- event may be a line of an events file or an ending of the rest.
pub data Entry : Type 0 where
  Adds : Birth → Entry
  Marks : ℕ → Bool → Entry
  Happens : Event → Entry

-- the same, where each event has its fate
pub data Step : Type 0 where
  Added : Birth → Step
  Marked : ℕ → Bool → Step
  Happened : Event → Fate → Step
