-- the columns that were passed are copied
use Rattle.std.proofs.Common.{◌≡◌, map, take}
use Rattle.aqe_tables.specs.Catalog.{column_of}
use Rattle.aqe_tables.proofs.columns.copy_columns.Given as goal

abbrev pub invariant-columns : goal.invariant-columns
invariant-columns l = l.schema ≡ map column_of (take l.column-index l.columns)
