-- What holds of all tables.
use Rattle.std.specs.Prelude.{◌≡◌, ℕ}
use Rattle.aqe_store.specs.Files.{Entries}
use Rattle.aqe_tables.specs.declared.catalog.CatalogTable.{CatalogTable}
use Rattle.aqe_tables.specs.declared.loaded.Table.{Table}
use Rattle.aqe_tables.specs.Load.{IsTableOf}

-- files make one table at most, however many bytes were loaded before it
abbrev pub FilesMakeOneTable : Type 0
FilesMakeOneTable =
    (files : Entries) (table : CatalogTable) (m n : ℕ) (a b : Table) → IsTableOf files table m a → IsTableOf files table n b
    → a ≡ b
