-- the values that were walked are copied
use Rattle.std.proofs.Common.{◌≡◌, take}
use Rattle.aqe_values.proofs.row.copied.Given as goal

abbrev pub invariant-values : goal.invariant-values
invariant-values l = l.copied.items ≡ take l.value-index l.values
