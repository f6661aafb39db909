-- the columns that were walked have their values
use Rattle.std.proofs.Common.{◌≡◌, take}
use Rattle.csv.specs.Records.{fields_of}
use Rattle.aqe_records.specs.FileRows.{row_of}
use Rattle.aqe_records.proofs.records.row_of.Given as goal

abbrev pub invariant-columns : goal.invariant-columns
invariant-columns l = l.row ≡ row_of (take l.i l.columns) (fields_of l.entry)
