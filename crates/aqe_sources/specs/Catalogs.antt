-- What the analysis sees of a catalog: the name and the columns of each table, by its number.
use Rattle.std.specs.Prelude.{List, map}
use Rattle.aqe_tables.specs.declared.catalog.CatalogTable.{CatalogTable}
use Rattle.aqe_rules.specs.Sources.{Catalog}

abbrev pub seen : List CatalogTable → Catalog
seen tables = map (λ table. (table.name, table.form.schema)) tables
