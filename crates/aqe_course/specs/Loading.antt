-- How the tables of a query are loaded: by their numbers in turn, each once in a run.
use Rattle.std.specs.Prelude.{◌≡◌, ℕ, List, [], ◌∷◌, None, Some, slice_get, IsFalse}
use Rattle.aqe_store.specs.Files.{Entries}
use Rattle.aqe_tables.specs.declared.catalog.CatalogTable.{CatalogTable}
use Rattle.aqe_tables.specs.declared.fault.LoadFault.{LoadFault}
use Rattle.aqe_tables.specs.declared.loaded.Table.{Table}
use Rattle.aqe_tables.specs.Load.{IsTableOf, LoadCause, is_excuse}
use Rattle.aqe_tables.specs.Loaded.{Slots, IsLoaded, Loads as IsPut, all_bytes, table_at}

-- the table of a number is loaded from the files, and the others stay
pub record IsAdded (files : Entries) (catalog : List CatalogTable) (before : Slots) (n : ℕ) (after : Slots) : Type 0 where
  pub form : CatalogTable
  pub created : slice_get catalog n ≡ Some form
  pub table : Table
  pub is : IsTableOf files form (all_bytes before) table
  pub put : IsPut before after n table

-- the table of a number is refused
pub record IsRefusedTable (files : Entries) (catalog : List CatalogTable) (before : Slots) (n : ℕ) (why : LoadFault) : Type 0 where
  pub form : CatalogTable
  pub created : slice_get catalog n ≡ Some form
  pub told : IsFalse (is_excuse why)
  pub cause : LoadCause files form (all_bytes before) why

-- Tables are loaded in turn; one that is loaded is not read again.
pub data AreLoaded (files : Entries) (catalog : List CatalogTable) : Slots → List ℕ → Slots → Type 0 where
  all : (before : Slots) → AreLoaded files catalog before [] before
  again : (before after : Slots) (n : ℕ) (more : List ℕ) → IsLoaded before n
      → AreLoaded files catalog before more after → AreLoaded files catalog before (n ∷ more) after
  next : (before now after : Slots) (n : ℕ) (more : List ℕ) → table_at before n ≡ None → IsAdded files catalog before n now
      → AreLoaded files catalog now more after → AreLoaded files catalog before (n ∷ more) after

-- One of the tables is refused, behind those that are loaded.
pub data IsStopped (files : Entries) (catalog : List CatalogTable) : Slots → List ℕ → LoadFault → Type 0 where
  here : (before : Slots) (n : ℕ) (more : List ℕ) (why : LoadFault) → table_at before n ≡ None
      → IsRefusedTable files catalog before n why → IsStopped files catalog before (n ∷ more) why
  again : (before : Slots) (n : ℕ) (more : List ℕ) (why : LoadFault) → IsLoaded before n
      → IsStopped files catalog before more why → IsStopped files catalog before (n ∷ more) why
  next : (before now : Slots) (n : ℕ) (more : List ℕ) (why : LoadFault) → table_at before n ≡ None → IsAdded files catalog before n now
      → IsStopped files catalog now more why → IsStopped files catalog before (n ∷ more) why
