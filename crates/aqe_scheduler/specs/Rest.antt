-- The rest: the task that ends next when no event is left.
use Rattle.std.specs.Prelude.{ℕ, Bool, not, ◌&&◌, List, [], map, length, flat_map, find, Option, unwrap_or}
use Rattle.std.specs.List.{range_with_len}
use Rattle.aqe_base.specs.declared.event.Event.{Event}
use Rattle.aqe_base.specs.declared.event.Event.TheVariants.{Ended}
use Rattle.aqe_scheduler.specs.History.{Birth, Step}
use Rattle.aqe_scheduler.specs.Looks.{births, needed, done, task_count}
use Rattle.aqe_scheduler.specs.Fates.{task_reads, has_inputs}

-- all tasks as pairs of stage and task, in rising order
abbrev pub tasks_of : List Birth → ℕ → List (ℕ × ℕ)
tasks_of born s = map (λ t. (s, t)) (range_with_len 0 (task_count born s))

abbrev pub places : List Birth → List (ℕ × ℕ)
places born = flat_map (tasks_of born) (range_with_len 0 (length born))

-- a task may end next if its stage is needed, it is not done, and all its inputs are done
abbrev pub may_end : List Birth → (ℕ → Bool) → (ℕ → ℕ → Bool) → ℕ × ℕ → Bool
may_end born is_needed is_done place =
    is_needed place.0 && (not (is_done place.0 place.1) && has_inputs is_done (unwrap_or (task_reads born place.0 place.1) []))

abbrev pub rest_by : List Birth → (ℕ → Bool) → (ℕ → ℕ → Bool) → Option (ℕ × ℕ)
rest_by born is_needed is_done = find (may_end born is_needed is_done) (places born)

-- the lowest pair of stage and task that may end next
abbrev pub rest_of : List Step → Option (ℕ × ℕ)
rest_of h = rest_by (births h) (needed h) (done h)

-- the event of its ending: it ends on executor 10000
abbrev pub rest_ending : ℕ × ℕ → Event
rest_ending place = Ended (record { 0 = place.0 }) (record { 0 = place.1 }) (record { 0 = 10000 })
