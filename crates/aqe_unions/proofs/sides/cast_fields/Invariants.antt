use Rattle.std.proofs.Common.{◌≡◌, ◌++◌, drop}
use Rattle.aqe_rules.specs.Unions.{cast_fields}
use Rattle.aqe_unions.proofs.sides.cast_fields.Given as goal

abbrev pub invariant-columns : goal.invariant-columns
invariant-columns l = l.schema ++ cast_fields l.others (drop l.field-index l.fields) ≡ cast_fields l.kinds l.fields
