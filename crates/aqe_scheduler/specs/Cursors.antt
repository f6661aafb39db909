-- Numbers of tasks at the front of stages that are all done.
use Rattle.std.specs.Prelude.{ℕ, ◌≡◌, ◌<◌, true, List, slice_index}
use Rattle.aqe_scheduler.specs.declared.stage.Stage.{Stage}
use Rattle.aqe_scheduler.specs.Tables.{done_on}

-- the first tasks of a stage, so many of them, are all done
abbrev pub AllDone : List Stage → ℕ → ℕ → Type 0
AllDone board s count = (t : ℕ) → t < count → done_on board s t ≡ true

-- the same of each stage, with its own number
abbrev pub AreDone : List Stage → List ℕ → Type 0
AreDone board firsts = (s : ℕ) → AllDone board s (slice_index firsts s)

-- what is at the front of a stage now was so before, and is not the task that is taken away
abbrev pub GoesBack : List ℕ → ℕ → ℕ → List ℕ → Type 0
GoesBack before stage task after = (s t : ℕ) → t < slice_index after s → (t < slice_index before s) × (stage ≡ s → task ≡ t → ⊥)
