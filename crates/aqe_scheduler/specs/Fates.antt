-- The fate of each event, by what stands before it.
use Rattle.std.specs.Prelude.{ℕ, ◌-◌, Bool, cond, ◌&&◌, ◌==◌, nat_le, nat_lt, List, [], ◌∷◌, ◌++◌, fold, filter_map, Option, Some, None, slice_get, option_and_then}
use Rattle.std.specs.List.{list_any, list_all, range_with_len}
use Rattle.aqe_base.specs.declared.event.Event.{Event}
use Rattle.aqe_base.specs.declared.event.Event.TheVariants.{Ended, Failed, Lost, Fetch}
use Rattle.aqe_scheduler.specs.declared.fate.Fate.{Fate}
use Rattle.aqe_scheduler.specs.declared.fate.Fate.TheVariants as fate
use Rattle.aqe_scheduler.specs.declared.need.Need.{Need}
use Rattle.aqe_scheduler.specs.History.{Birth, Entry, Adds, Marks, Happens, Step, Added, Marked, Happened}
use Rattle.aqe_scheduler.specs.Looks.{births, needed, done, shuffles}

-- what task t of stage s reads, if there is such a task
abbrev pub task_reads : List Birth → ℕ → ℕ → Option (List Need)
task_reads born s t = option_and_then (λ birth. slice_get birth.reads t) (slice_get born s)

-- the maps that a need names
abbrev pub maps_of : Need → List ℕ
maps_of need = range_with_len need.m0 (need.m1 - need.m0)

-- all of the maps that are needed are done
abbrev pub has_inputs : (ℕ → ℕ → Bool) → List Need → Bool
has_inputs is_done needs = list_all (λ need. list_all (is_done need.stage.0) (maps_of need)) needs

-- map m of stage p is among the needs, and stage p is a shuffle
abbrev pub names_map : ℕ → ℕ → Need → Bool
names_map p m need = (need.stage.0 == p) && (nat_le need.m0 m && nat_lt m need.m1)

abbrev pub reads_map : List Birth → ℕ → ℕ → List Need → Bool
reads_map born p m needs = shuffles born p && list_any (names_map p m) needs

-- what a task reads, where a failed fetch of map m of stage p can be its own
abbrev pub can_fetch : List Birth → ℕ → ℕ → Option (List Need) → Option (List Need)
can_fetch born p m (Some needs) = cond (reads_map born p m needs) (Some needs) None
can_fetch born p m None = None

-- The fates in their order, over what the task reads, whether its stage is needed and whether it is done: unknown, late, repeat,
-- starved, or else what the event counts as.
abbrev pub judged : Option (List Need) → Bool → Bool → (ℕ → ℕ → Bool) → Fate → Fate
judged None is_needed is_done all_done otherwise = fate.Unknown
judged (Some needs) is_needed is_done all_done otherwise =
    cond is_needed (cond is_done fate.Repeat (cond (has_inputs all_done needs) otherwise fate.Starved)) fate.Late

-- the fate of an event, over the births and the answers to "is the stage needed" and "is the task done"
abbrev pub fate_by : List Birth → (ℕ → Bool) → (ℕ → ℕ → Bool) → Event → Fate
fate_by born is_needed is_done (Ended stage task on) =
    judged (task_reads born stage.0 task.0) (is_needed stage.0) (is_done stage.0 task.0) is_done fate.Counted
fate_by born is_needed is_done (Failed stage task on) =
    judged (task_reads born stage.0 task.0) (is_needed stage.0) (is_done stage.0 task.0) is_done fate.FailCounted
fate_by born is_needed is_done (Lost on) = fate.Lost
fate_by born is_needed is_done (Fetch stage task on parent map) =
    judged (can_fetch born parent.0 map.0 (task_reads born stage.0 task.0)) (is_needed stage.0) (is_done stage.0 task.0) is_done fate.FetchCounted

-- the fate of an event behind a history
abbrev pub fate_of : List Step → Event → Fate
fate_of h event = fate_by (births h) (needed h) (done h) event

-- the step that an entry is behind a history
abbrev pub step_of : List Step → Entry → Step
step_of h (Adds birth) = Added birth
step_of h (Marks stage is_needed) = Marked stage is_needed
step_of h (Happens event) = Happened event (fate_of h event)

-- the steps of entries: each event has the fate that it has behind the steps before it
abbrev pub noted : List Entry → List Step
noted entries = fold (λ h entry. h ++ step_of h entry ∷ []) [] entries

-- the fates in a history, in order
abbrev pub fate_in : Step → Option Fate
fate_in (Happened event f) = Some f
fate_in other = None

abbrev pub fates : List Step → List Fate
fates h = filter_map fate_in h
