-- When a board stands for a history.
use Rattle.std.specs.Prelude.{ℕ, ◌≡◌, cond, List, [], ◌∷◌, ◌++◌, option_to_list, is_some, length, ◌≤◌, ◌<◌, ◌^◌}
use Rattle.aqe_base.specs.declared.ids.ExecId.{ExecId}
use Rattle.aqe_scheduler.specs.declared.task.Task.{Task}
use Rattle.aqe_scheduler.specs.declared.stage.Stage.{Stage}
use Rattle.aqe_scheduler.specs.History.{Birth, Entry, Step}
use Rattle.aqe_scheduler.specs.Looks.{task_count, births, needed, counted, leaves, executor_of, fails, streak, stopped}
use Rattle.aqe_scheduler.specs.Fates.{noted, task_reads}
use Rattle.aqe_scheduler.specs.Tables.{births_on, needed_on, streak_on, task_on, found_on}

-- the executors of all steps that leave an output
abbrev pub holders : List Step → ℕ → ℕ → List ExecId
holders [] s m = []
holders (x ∷ later) s m = cond (leaves s m x later) (executor_of x ∷ []) [] ++ holders later s m

-- what is kept of a task is what the history says of it: one executor at most holds its output
pub record StandsAt (h : List Step) (s t : ℕ) (task : Task) : Type 0 where
  pub counted : task.counted ≡ counted h s t
  pub on : holders h s t ≡ option_to_list task.on
  pub fails : task.fails ≡ stopped (fails h s t)

-- a board stands for the steps of a history, also at stages and tasks that are not born: of them both say the same
pub record Stands (board : List Stage) (h : List Step) : Type 0 where
  pub births : births_on board ≡ births h
  pub room : (s t : ℕ) → is_some (found_on board s t) ≡ is_some (task_reads (births_on board) s t)
  pub needed : (s : ℕ) → needed_on board s ≡ needed h s
  pub streaks : (s : ℕ) → streak_on board s ≡ stopped (streak h s)
  pub tasks : (s t : ℕ) → StandsAt h s t (task_on board s t)

-- and for what came to it
abbrev pub StandsFor : List Stage → List Entry → Type 0
StandsFor board entries = Stands board (noted entries)

-- a board has room for the numbers of its stages and tasks
abbrev pub AreFew : List Birth → Type 0
AreFew born = (length born ≤ 2 ^ 32) × ((s : ℕ) → task_count born s < 2 ^ 32)
