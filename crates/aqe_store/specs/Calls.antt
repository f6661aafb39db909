-- Which calls of the stores and sinks in memory fail.
use Rattle.std.specs.Prelude.{ℕ, ◌+◌, ◌^◌, ◌<◌, List, Contains}
use Rattle.aqe_store.specs.declared.calls.StoreKind.{StoreKind}
use Rattle.aqe_store.specs.declared.calls.StoreCall.{StoreCall}

-- after so many calls of a kind the next one fails: its number, counted from 1, is a u32 and among the failing ones
abbrev pub IsFailing : List StoreCall → StoreKind → ℕ → Type 0
IsFailing failing kind calls = (calls + 1 < 2 ^ 32) × Contains failing (record { kind = kind; number = calls + 1 })

-- the same of writes
abbrev pub IsFailingWrite : List ℕ → ℕ → Type 0
IsFailingWrite failing calls = (calls + 1 < 2 ^ 32) × Contains failing (calls + 1)
