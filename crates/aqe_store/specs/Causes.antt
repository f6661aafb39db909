-- Why a call of a store or a sink may be refused: each refusal shows in a count, and nothing else does.
use Rattle.std.specs.Prelude.{◌≡◌, ℕ, ◌+◌, ◌-◌, ◌^◌, ◌≤◌, min, Result, Ok, Err, IsErr}
use Rattle.aqe_store.specs.declared.store.StoreFail.{StoreFail}
use Rattle.aqe_store.specs.declared.store.StoreFail.TheVariants.{Failed, Missing, Memory}

-- A count rose. One that stands at 2^64 - 1, the most that a u64 holds, counts as risen.
abbrev pub Rose : ℕ → ℕ → Type 0
Rose before now = min (before + 1) (2 ^ 64 - 1) ≤ now

-- a failure raises the count of faults by one at most, and no other answer changes it
abbrev pub CountsFailures : {A : Type 0} → Result A StoreFail → ℕ → ℕ → Type 0
CountsFailures (Ok a) before now = now ≡ before
CountsFailures (Err Failed) before now = now ≤ before + 1
CountsFailures (Err Missing) before now = now ≡ before
CountsFailures (Err Memory) before now = now ≡ before

-- a file or folder that is missing raises the count of misses by one at most, and no other answer changes it
abbrev pub CountsMisses : {A : Type 0} → Result A StoreFail → ℕ → ℕ → Type 0
CountsMisses (Ok a) before now = now ≡ before
CountsMisses (Err Failed) before now = now ≡ before
CountsMisses (Err Missing) before now = now ≤ before + 1
CountsMisses (Err Memory) before now = now ≡ before

-- `list` and `begin_file`: no count falls, a failure alone raises the faults, and what is missing alone the misses
pub record HasCauses {A : Type 0} (faults faults' misses misses' : ℕ) (result : Result A StoreFail) : Type 0 where
  pub faults_stay : faults ≤ faults'
  pub misses_stay : misses ≤ misses'
  pub failed : result ≡ Err Failed → Rose faults faults'
  pub missing : result ≡ Err Missing → Rose misses misses'
  pub failures : CountsFailures result faults faults'
  pub absences : CountsMisses result misses misses'

-- `take`: there is no refusal but a failure, which alone raises the faults, and the misses stay
pub record HasFault {A : Type 0} (faults faults' misses misses' : ℕ) (result : Result A StoreFail) : Type 0 where
  pub faults_stay : faults ≤ faults'
  pub misses_stay : misses' ≡ misses
  pub failed : IsErr result → Rose faults faults'
  pub only : IsErr result → result ≡ Err Failed
  pub failures : CountsFailures result faults faults'
