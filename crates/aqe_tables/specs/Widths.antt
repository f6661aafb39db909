-- How wide the tables of a catalog are.
use Rattle.std.specs.Prelude.{◌≤◌, List, All, length}
use Rattle.aqe_tables.specs.declared.catalog.CatalogTable.{CatalogTable}

-- no table has more than 256 columns
abbrev pub AreNarrow : List CatalogTable → Type 0
AreNarrow tables = All (λ table. length table.form.schema ≤ 256) tables
