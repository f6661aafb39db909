-- What an event with its fate makes of the tables of the board.
use Rattle.std.specs.Prelude.{ℕ, ◌+◌, Bool, false, List, map, length, replicate}
use Rattle.aqe_base.specs.declared.ids.ExecId.{ExecId}
use Rattle.aqe_base.specs.declared.event.Event.{Event}
use Rattle.aqe_base.specs.declared.event.Event.TheVariants.{Ended, Failed, Lost, Fetch}
use Rattle.aqe_scheduler.specs.declared.fate.Fate.{Fate}
use Rattle.aqe_scheduler.specs.declared.fate.Fate.TheVariants as fate
use Rattle.aqe_scheduler.specs.declared.stage.Stage.{Stage}
use Rattle.aqe_scheduler.specs.History.{Birth}
use Rattle.aqe_scheduler.specs.Looks.{stopped}
use Rattle.aqe_scheduler.specs.Tables.{edited, fresh, ended, failed, emptied, without}

-- a stage behind a counted ending, a counted failure or a counted failed fetch of a task of its own
abbrev pub ending_of : ℕ → ExecId → Stage → Stage
ending_of task executor stage = record stage { streak = 0; tasks = edited task (ended executor) stage.tasks }

abbrev pub failure_of : ℕ → Stage → Stage
failure_of task stage = record stage { tasks = edited task failed stage.tasks }

abbrev pub fetch_of : Stage → Stage
fetch_of stage = record stage { streak = stopped (stage.streak + 1) }

-- a stage without the output of a map, and behind the loss of an executor
abbrev pub bereft : ℕ → Stage → Stage
bereft task stage = record stage { tasks = edited task emptied stage.tasks }

abbrev pub loss_of : ExecId → Stage → Stage
loss_of executor stage = record stage { tasks = map (without executor.0) stage.tasks }

-- the board behind an event with its fate; other events than these change nothing
abbrev pub settled : Event → Fate → List Stage → List Stage
settled (Ended stage task executor) fate.Counted board = edited stage.0 (ending_of task.0 executor) board
settled (Failed stage task executor) fate.FailCounted board = edited stage.0 (failure_of task.0) board
settled (Lost executor) f board = map (loss_of executor) board
settled (Fetch stage task executor parent map) fate.FetchCounted board = edited parent.0 (bereft map.0) (edited stage.0 fetch_of board)
settled event f board = board

-- a stage that was just born: it is not needed yet, and none of its tasks has ended
abbrev pub newborn : Birth → Stage
newborn birth = record { kind = birth.kind; needed = false; streak = 0; reads = birth.reads; tasks = replicate (length birth.reads) fresh }

-- a stage behind a mark
abbrev pub marking : Bool → Stage → Stage
marking is_needed stage = record stage { needed = is_needed }
