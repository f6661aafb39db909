-- What a history says, read off the whole list of its steps, the oldest first. Nothing is kept beside the list.
use Rattle.std.specs.Prelude.{ℕ, ◌+◌, ◌^◌, ◌-◌, min, Bool, true, false, cond, not, ◌&&◌, ◌||◌, ◌==◌, List, [], ◌∷◌, length, fold, filter_map, count_by, Option, Some, None, is_some, slice_get}
use Rattle.std.specs.List.{list_any, list_all, range_with_len}
use Rattle.aqe_base.specs.declared.ids.ExecId.{ExecId}
use Rattle.aqe_base.specs.declared.event.Event.TheVariants.{Ended, Failed, Lost, Fetch}
use Rattle.aqe_scheduler.specs.declared.fate.Fate.TheVariants as fate
use Rattle.aqe_scheduler.specs.declared.need.StageKindTag.{StageKindTag}
use Rattle.aqe_scheduler.specs.declared.need.StageKindTag.TheVariants as kind
use Rattle.aqe_scheduler.specs.History.{Birth, Step, Added, Marked, Happened}

-- the stages that were born, in order: stage s is the s-th of them
abbrev pub born_in : Step → Option Birth
born_in (Added birth) = Some birth
born_in other = None

abbrev pub births : List Step → List Birth
births h = filter_map born_in h

-- a stage is needed if its last mark says so; without a mark it is not needed
abbrev pub marked : ℕ → Bool → Step → Bool
marked s before (Marked stage is_needed) = cond (stage == s) is_needed before
marked s before other = before

abbrev pub needed : List Step → ℕ → Bool
needed h s = fold (marked s) false h

-- the step is a counted ending of task t of stage s
abbrev pub counts : ℕ → ℕ → Step → Bool
counts s t (Happened (Ended stage task on) fate.Counted) = (stage.0 == s) && (task.0 == t)
counts s t other = false

-- a task was counted if some step is a counted ending of it
abbrev pub counted : List Step → ℕ → ℕ → Bool
counted h s t = list_any (counts s t) h

-- the executor that an ending came from; asked of endings alone
abbrev pub executor_of : Step → ExecId
executor_of (Happened (Ended stage task on) f) = on
executor_of other = record { 0 = 0 }

-- the step takes away the output of map m of stage s that stands on an executor: the loss of the executor does, and so does a
-- counted failure to fetch that very output, wherever it stands
abbrev pub takes_away : ℕ → ℕ → ℕ → Step → Bool
takes_away s m on (Happened (Lost executor) f) = executor.0 == on
takes_away s m on (Happened (Fetch stage task at parent map) fate.FetchCounted) = (parent.0 == s) && (map.0 == m)
takes_away s m on other = false

-- the step is a counted ending of the map's task, and no later step takes the output away from the executor of that ending
abbrev pub leaves : ℕ → ℕ → Step → List Step → Bool
leaves s m x later = counts s m x && not (list_any (takes_away s m (executor_of x).0) later)

-- the output of map m of stage s is available if some step leaves it
abbrev pub available : List Step → ℕ → ℕ → Bool
available [] s m = false
available (x ∷ later) s m = leaves s m x later || available later s m

-- the kind of a stage that was born is shuffle
abbrev pub is_shuffle : StageKindTag → Bool
is_shuffle kind.Shuffle = true
is_shuffle other = false

abbrev pub shuffles_in : Option Birth → Bool
shuffles_in (Some birth) = is_shuffle birth.kind
shuffles_in None = false

abbrev pub shuffles : List Birth → ℕ → Bool
shuffles born s = shuffles_in (slice_get born s)

-- what a shuffle wrote may be lost, so its task is done as long as the output is there; other outputs are never lost, and there one
-- counted ending is enough
abbrev pub done : List Step → ℕ → ℕ → Bool
done h s t = cond (shuffles (births h) s) (available h s t) (counted h s t)

-- how many tasks a stage has; 0 if it is not born
abbrev pub tasks_in : Option Birth → ℕ
tasks_in (Some birth) = length birth.reads
tasks_in None = 0

abbrev pub task_count : List Birth → ℕ → ℕ
task_count born s = tasks_in (slice_get born s)

-- a stage is whole if it is born and all its tasks are done
abbrev pub whole : List Step → ℕ → Bool
whole h s = is_some (slice_get (births h) s) && list_all (done h s) (range_with_len 0 (task_count (births h) s))

-- the failures that were counted against a task; their number never falls
abbrev pub fails_counted : ℕ → ℕ → Step → Bool
fails_counted s t (Happened (Failed stage task on) fate.FailCounted) = (stage.0 == s) && (task.0 == t)
fails_counted s t other = false

abbrev pub fails : List Step → ℕ → ℕ → ℕ
fails h s t = count_by (fails_counted s t) h

-- the streak of a stage: the failed fetches of its tasks that were counted after the last counted ending of one of its tasks
abbrev pub fetch_counted : ℕ → Step → Bool
fetch_counted s (Happened (Fetch stage task on parent map) fate.FetchCounted) = stage.0 == s
fetch_counted s other = false

abbrev pub counts_for : ℕ → Step → Bool
counts_for s (Happened (Ended stage task on) fate.Counted) = stage.0 == s
counts_for s other = false

abbrev pub streak : List Step → ℕ → ℕ
streak [] s = 0
streak (x ∷ later) s = cond (fetch_counted s x && not (list_any (counts_for s) later)) 1 0 + streak later s

-- a number as a counter of 64 bits shows it, which stops at the greatest that it can hold
abbrev pub stopped : ℕ → ℕ
stopped n = min n (2 ^ 64 - 1)
