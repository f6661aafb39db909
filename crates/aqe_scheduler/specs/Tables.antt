-- The tables of the board as plain data, and how a step changes them.
use Rattle.std.specs.Prelude.{ℕ, zero, suc, ◌+◌, Bool, true, false, cond, ◌&&◌, ◌==◌, List, [], ◌∷◌, map, Option, Some, None, is_some, slice_get, unwrap_or, option_and_then}
use Rattle.std.specs.List.{list_all, range_with_len}
use Rattle.aqe_base.specs.declared.ids.ExecId.{ExecId}
use Rattle.aqe_scheduler.specs.declared.task.Task.{Task}
use Rattle.aqe_scheduler.specs.declared.stage.Stage.{Stage}
use Rattle.aqe_scheduler.specs.History.{Birth}
use Rattle.aqe_scheduler.specs.Looks.{shuffles, stopped, task_count}

-- a task that never ended and never failed
abbrev pub fresh : Task
fresh = record { counted = false; on = None; fails = 0 }

-- a task behind a counted ending, behind a counted failure, and without its output
abbrev pub ended : ExecId → Task → Task
ended executor task = record task { counted = true; on = Some executor }

abbrev pub failed : Task → Task
failed task = record task { fails = stopped (task.fails + 1) }

abbrev pub emptied : Task → Task
emptied task = record task { on = None }

-- an output stands on an executor
abbrev pub holds_on : ℕ → Option ExecId → Bool
holds_on executor None = false
holds_on executor (Some on) = executor == on.0

-- a task behind the loss of an executor
abbrev pub without : ℕ → Task → Task
without executor task = cond (holds_on executor task.on) (emptied task) task

-- a list with its i-th item changed; the same list if it has no such item
abbrev pub edited : {X : Type 0} → ℕ → (X → X) → List X → List X
edited i change [] = []
edited zero change (x ∷ xs) = change x ∷ xs
edited (suc i) change (x ∷ xs) = x ∷ edited i change xs

-- the births that a board knows of
abbrev pub birth_of : Stage → Birth
birth_of stage = record { kind = stage.kind; reads = stage.reads }

abbrev pub births_on : List Stage → List Birth
births_on board = map birth_of board

-- what a board says of a stage or a task; of what is not born, what holds before anything happens
abbrev pub needed_at : Option Stage → Bool
needed_at None = false
needed_at (Some stage) = stage.needed

abbrev pub needed_on : List Stage → ℕ → Bool
needed_on board s = needed_at (slice_get board s)

abbrev pub streak_at : Option Stage → ℕ
streak_at None = 0
streak_at (Some stage) = stage.streak

abbrev pub streak_on : List Stage → ℕ → ℕ
streak_on board s = streak_at (slice_get board s)

-- the task that is kept, if both are born
abbrev pub found_on : List Stage → ℕ → ℕ → Option Task
found_on board s t = option_and_then (λ stage. slice_get stage.tasks t) (slice_get board s)

abbrev pub task_on : List Stage → ℕ → ℕ → Task
task_on board s t = unwrap_or (found_on board s t) fresh

abbrev pub done_on : List Stage → ℕ → ℕ → Bool
done_on board s t = cond (shuffles (births_on board) s) (is_some (task_on board s t).on) (task_on board s t).counted

-- a stage is whole if it is born and all its tasks are done
abbrev pub whole_on : List Stage → ℕ → Bool
whole_on board s = is_some (slice_get (births_on board) s) && list_all (done_on board s) (range_with_len 0 (task_count (births_on board) s))
