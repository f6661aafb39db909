use Rattle.std.proofs.Common.{◌≡◌, ◌++◌, drop, length}
use Rattle.aqe_rules.specs.Unions.{cast_columns}
use Rattle.aqe_unions.proofs.sides.cast_columns.Given as goal

abbrev pub invariant-columns : goal.invariant-columns
invariant-columns l = l.items ++ cast_columns (length l.items) l.others (drop l.field-index l.fields) ≡ cast_columns 0 l.kinds l.fields
