-- What a step leaves of the store, here and in the crates above.
use Rattle.std.specs.Prelude.{◌≡◌, ◌≤◌, ℕ, Option, Result, Err}
use Rattle.aqe_store.specs.Causes.{Rose}
use Rattle.aqe_store.specs.Files.{Entries}
use Rattle.aqe_store.specs.Told.{KeepsFiles}

-- What a step leaves of the store, where it refuses with `fault` for a store that fails and with `miss` for what is not
-- there: files that are told stay told and as they are, no count falls, and each count rises with its own refusal and
-- with no other answer.
pub record IsStep {A E : Type 0} (fault miss : E) (told told' : Option Entries) (faults faults' misses misses' : ℕ)
    (result : Result A E) : Type 0 where
  pub keeps : KeepsFiles told told'
  pub faults_stay : faults ≤ faults'
  pub misses_stay : misses ≤ misses'
  pub read_fault : result ≡ Err fault → Rose faults faults'
  pub missing : result ≡ Err miss → Rose misses misses'
  pub steady : (result ≡ Err fault → ⊥) → faults' ≡ faults
  pub found : (result ≡ Err miss → ⊥) → misses' ≡ misses

-- The same of two states of a store, by what is told of its files and by its counts.
abbrev pub IsStoreStep : {S A E : Type 0} → E → E → (S → Option Entries) → (S → ℕ) → (S → ℕ) → S → S → Result A E → Type 0
IsStoreStep fault miss files faults misses old new result =
    IsStep fault miss (files old) (files new) (faults old) (faults new) (misses old) (misses new) result
