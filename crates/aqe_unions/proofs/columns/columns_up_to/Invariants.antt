use Rattle.std.proofs.Common.{◌≡◌, take}
use Rattle.aqe_rules.specs.Plans.{columns_up_to}
use Rattle.aqe_unions.proofs.columns.columns_up_to.Given as goal

abbrev pub invariant-fields : goal.invariant-fields
invariant-fields l = l.columns ≡ columns_up_to 0 (take l.index l.fields)
