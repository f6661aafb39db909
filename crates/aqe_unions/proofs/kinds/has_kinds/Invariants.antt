use Rattle.std.proofs.Common.{◌≡◌, drop}
use Rattle.aqe_rules.specs.Unions.{has_kinds}
use Rattle.aqe_unions.proofs.kinds.has_kinds.Given as goal

abbrev pub invariant-columns : goal.invariant-columns
invariant-columns l = has_kinds l.others (drop l.field-index l.fields) ≡ has_kinds l.kinds l.fields
