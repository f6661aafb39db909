-- The loaded tables, by number.
use Rattle.std.specs.Prelude.{◌≡◌, ◌≢◌, ◌≤◌, ◌++◌, ℕ, List, length, replicate, slice_get, slice_index_or, Option, None, Some, IsSome, IfSome, IsSomeAnd, All, sum_by}
use Rattle.aqe_tables.specs.declared.catalog.CatalogTable.{CatalogTable}
use Rattle.aqe_tables.specs.declared.loaded.Table.{Table}
use Rattle.aqe_store.specs.Files.{Entries}
use Rattle.aqe_tables.specs.declared.fault.LoadFault.{LoadFault}
use Rattle.aqe_tables.specs.Load.{HasNoCause, HasNoOtherCause, IsShaped, IsTableOf, LoadCause}

-- each slot has the loaded table of its number, or none
abbrev pub Slots : Type 0
Slots = List (Option Table)

-- the table of a number, if it is loaded
abbrev pub table_at : Slots → ℕ → Option Table
table_at slots n = slice_index_or slots n None

abbrev pub IsLoaded : Slots → ℕ → Type 0
IsLoaded slots n = IsSome (table_at slots n)

-- the fact holds of the table of this number in the catalog, and of what is loaded of it
abbrev pub WhereLoaded : List CatalogTable → Slots → ℕ → (CatalogTable → Table → Type 0) → Type 0
WhereLoaded catalog slots n fact = IfSome (slice_get catalog n) (λ table. IfSome (table_at slots n) (λ loaded. fact table loaded))

-- a table was loaded with the shape of the one that was created
abbrev pub IsShapedBy : CatalogTable → Table → Type 0
IsShapedBy table loaded = IsShaped (length table.form.schema) loaded

abbrev pub slot_bytes : Option Table → ℕ
slot_bytes None = 0
slot_bytes (Some table) = table.bytes

-- the bytes of all loaded tables together
abbrev pub all_bytes : Slots → ℕ
all_bytes slots = sum_by slot_bytes slots

-- What is loaded under the number is the table of the files, behind what was loaded before.
abbrev pub IsLoadedFrom : Entries → List CatalogTable → Slots → ℕ → Slots → Type 0
IsLoadedFrom files catalog old n new = WhereLoaded catalog new n (λ table loaded. IsTableOf files table (all_bytes old) loaded)

-- why the load of the table of this number is refused, behind what is loaded
abbrev pub HasLoadCause : Entries → List CatalogTable → Slots → ℕ → LoadFault → Type 0
HasLoadCause files catalog old n why = IfSome (slice_get catalog n) (λ table. LoadCause files table (all_bytes old) why)

-- no cause refuses it
abbrev pub HasNoLoadCause : Entries → List CatalogTable → Slots → ℕ → Type 0
HasNoLoadCause files catalog old n = IfSome (slice_get catalog n) (λ table. HasNoCause files table (all_bytes old))

-- no cause of another refusal refuses it, unless this one may come before any
abbrev pub HasNoOtherLoadCause : Entries → List CatalogTable → Slots → ℕ → LoadFault → Type 0
HasNoOtherLoadCause files catalog old n given =
    IfSome (slice_get catalog n) (λ table. HasNoOtherCause files table (all_bytes old) given)

-- the table of this number is loaded, and all others stay
pub record Loads (old new : Slots) (n : ℕ) (table : Table) : Type 0 where
  pub is : table_at new n ≡ Some table
  pub others : (m : ℕ) → m ≢ n → table_at new m ≡ table_at old m

-- Each loaded table was created, and has the shape of its schema: 1 to 1,000 files, and in each row a value for each
-- column.
abbrev pub AreShaped : List CatalogTable → Slots → Type 0
AreShaped catalog slots = (n : ℕ) → IfSome (table_at slots n)
    (λ loaded. IsSomeAnd (slice_get catalog n) (λ table. IsShapedBy table loaded))

-- no loaded table has more than 1,000 files
abbrev pub AreSmall : Slots → Type 0
AreSmall slots = All (λ slot. IfSome slot (λ table. length table.files ≤ 1000)) slots

-- slots without a table are added
abbrev pub Pads : Slots → Slots → Type 0
Pads old new = (n : ℕ) × (new ≡ old ++ replicate n None)
