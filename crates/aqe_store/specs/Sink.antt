-- What a sink took, and why it failed.
use Rattle.std.specs.Prelude.{◌≡◌, ℕ, ◌+◌, ◌≤◌, List, take, Option, Result, Ok, Err, IsErr}
use Rattle.std.specs.Io.KnownBytes.{Appends}
use Rattle.aqe_store.specs.Causes.{Rose}

-- a failure raises the count by one at most, and nothing else changes it
abbrev pub CountsErrors : {A E : Type 0} → Result A E → ℕ → ℕ → Type 0
CountsErrors (Ok a) before now = now ≡ before
CountsErrors (Err e) before now = now ≤ before + 1

-- the count of faults does not fall, and a failure alone raises it
pub record HasSinkCause {A E : Type 0} (faults faults' : ℕ) (result : Result A E) : Type 0 where
  pub stays : faults ≤ faults'
  pub failed : IsErr result → Rose faults faults'
  pub failures : CountsErrors result faults faults'

-- known bytes grow by a front of these bytes
abbrev pub AppendsFront : Option (List ℕ) → Option (List ℕ) → List ℕ → Type 0
AppendsFront old new bytes = (n : ℕ) × Appends old new (take n bytes)
