-- the names are those of the columns that were passed, and none came twice
use Rattle.std.proofs.Common.{◌≡◌, [], take, drop}
use Rattle.aqe_tables.specs.Catalog.{name_keys, repeated_name}
use Rattle.aqe_tables.proofs.columns.repeated_name.Given as goal

abbrev pub invariant-columns : goal.invariant-columns
invariant-columns l =
    (l.names.keys ≡ name_keys (take l.column-index l.columns))
    × (repeated_name (take l.column-index l.columns) (drop l.column-index l.columns) ≡ repeated_name [] l.columns)
