-- The estimates of the tables of a query.
use Rattle.std.specs.Prelude.{◌≡◌, ℕ, suc, max, ◌≤◌, ◌<◌, ◌==◌, cond, List, [], ◌∷◌, map, length, replicate, slice_index_or, Option, Some, None}
use Rattle.std.specs.List.{list_any, range_with_len}
use Rattle.std.specs.Option.{IsSomeAnd}
use Rattle.aqe_logical.specs.declared.plan.Logical.{Logical}
use Rattle.aqe_logical.specs.Nodes.{scans}
use Rattle.aqe_physical.specs.declared.sizes.Estimate.{Estimate}
use Rattle.aqe_tables.specs.declared.loaded.Table.{Table}
use Rattle.aqe_tables.specs.Loaded.{Slots, table_at}

-- a loaded table has 1 to 1,000 files
abbrev pub HasSomeFiles : Table → Type 0
HasSomeFiles table = (1 ≤ length table.files) × (length table.files ≤ 1000)

abbrev pub HasFiles : Slots → ℕ → Type 0
HasFiles slots n = IsSomeAnd (table_at slots n) HasSomeFiles

-- a table that a query does not scan has 0 bytes and one file
abbrev pub not_scanned : Estimate
not_scanned = record { bytes = 0; files = 1 }

abbrev pub none_scanned : ℕ → List Estimate
none_scanned n = replicate n not_scanned

-- a loaded table has the bytes and the number of its files
abbrev pub estimate_in : Option Table → Estimate
estimate_in (Some table) = record { bytes = table.bytes; files = length table.files }
estimate_in None = not_scanned

-- the number behind the greatest of the table numbers; 0 where there is none
abbrev pub reach : List ℕ → ℕ
reach [] = 0
reach (table ∷ tables) = max (suc table) (reach tables)

-- a table is estimated where it is among those that are scanned
abbrev pub estimated : Slots → List ℕ → ℕ → Estimate
estimated slots scanned n = cond (list_any (λ table. table == n) scanned) (estimate_in (table_at slots n)) not_scanned

-- the estimates of the tables of a query, by table number up to the greatest that it scans
abbrev pub estimates_of : Slots → Logical → List Estimate
estimates_of slots query = map (estimated slots (scans query)) (range_with_len 0 (reach (scans query)))

-- each table among those that are scanned is known by its estimate, and all others as before
abbrev pub with_scans : Slots → List ℕ → ℕ → Estimate → Estimate
with_scans slots scanned n known = cond (list_any (λ table. table == n) scanned) (estimate_in (table_at slots n)) known

pub record Filled (slots : Slots) (scanned : List ℕ) (old new : List Estimate) : Type 0 where
  pub many : length new ≡ length old
  pub each : (n : ℕ) → n < length old → slice_index_or new n not_scanned ≡ with_scans slots scanned n (slice_index_or old n not_scanned)
