-- The laws of coalescing.
use Rattle.std.specs.Prelude.{ℕ, ◌≡◌, List}
use Rattle.aqe_coalesce.specs.Coalesced.{Group, Coalesced}

-- there is one list of groups at most
abbrev pub OneListOfGroups : Type 0
OneListOfGroups = (sizes : List ℕ) (target : ℕ) (groups others : List Group) → Coalesced sizes target groups → Coalesced sizes target others → groups ≡ others

-- there is one
abbrev pub SomeListOfGroups : Type 0
SomeListOfGroups = (sizes : List ℕ) (target : ℕ) → (groups : List Group) × Coalesced sizes target groups
