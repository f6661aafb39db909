-- The laws of histories in which tasks end and nothing is lost.
use Rattle.std.specs.Prelude.{ℕ, ◌≡◌, true, Bool, Some, List, [], ◌∷◌, ◌++◌, is_some, slice_get}
use Rattle.aqe_scheduler.specs.declared.fate.Fate.TheVariants.{Counted}
use Rattle.aqe_scheduler.specs.declared.stage.Stage.{Stage}
use Rattle.aqe_scheduler.specs.History.{Entry, Marks, Step, Happened}
use Rattle.aqe_scheduler.specs.Looks.{whole}
use Rattle.aqe_scheduler.specs.Fates.{fate_of}
use Rattle.aqe_scheduler.specs.Rest.{rest_of, rest_ending}
use Rattle.aqe_scheduler.specs.Stands.{StandsFor}
use Rattle.aqe_scheduler.specs.Tables.{needed_on}

-- the ending of the task that may end next counts
abbrev pub NextEndingsCount : Type 0
NextEndingsCount = (h : List Step) (place : ℕ × ℕ) → rest_of h ≡ Some place → fate_of h (rest_ending place) ≡ Counted

-- and each stage that was whole is whole behind it
abbrev pub WholeStagesStay : Type 0
WholeStagesStay = (h : List Step) (place : ℕ × ℕ) (s : ℕ) → rest_of h ≡ Some place → whole h s ≡ true → whole (h ++ Happened (rest_ending place) Counted ∷ []) s ≡ true

-- A board that stands for a history stands for it also where a stage is marked again as it is marked already.
abbrev pub MarksMayRepeat : Type 0
MarksMayRepeat = (board : List Stage) (entries : List Entry) (s : ℕ) (is_needed : Bool) → is_some (slice_get board s) ≡ true → needed_on board s ≡ is_needed →
    StandsFor board entries → StandsFor board (entries ++ Marks s is_needed ∷ [])
