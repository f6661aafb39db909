-- The laws of histories.
use Rattle.std.specs.Prelude.{ℕ, ◌≡◌, ◌≤◌, ◌+◌, false, List, [], ◌∷◌, ◌++◌}
use Rattle.aqe_base.specs.declared.event.Event.{Event}
use Rattle.aqe_scheduler.specs.History.{Entry, Happens, Step, Happened}
use Rattle.aqe_scheduler.specs.Looks.{births, shuffles}
use Rattle.aqe_scheduler.specs.Fates.{fate_of, noted}
use Rattle.aqe_scheduler.specs.Bounds.{runs, takings}

-- a task runs at most once more than outputs were taken away: by losses of executors, and by failed fetches that were counted
abbrev pub RerunsAreBounded : Type 0
RerunsAreBounded = (entries : List Entry) (s t : ℕ) → runs (noted entries) s t ≤ takings (noted entries) + 1

-- a task of a stage that is no shuffle runs at most once
abbrev pub OthersRunOnce : Type 0
OthersRunOnce = (entries : List Entry) (s t : ℕ) → shuffles (births (noted entries)) s ≡ false → runs (noted entries) s t ≤ 1

-- each event has the fate that it has behind what stands before it, whatever follows
abbrev pub FatesAreRight : Type 0
FatesAreRight = (before : List Entry) (event : Event) (after : List Entry) →
    (later : List Step) × (noted ((before ++ Happens event ∷ []) ++ after) ≡ (noted before ++ Happened event (fate_of (noted before) event) ∷ []) ++ later)
