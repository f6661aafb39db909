use Rattle.std.proofs.Common.{◌≡◌, take}
use Rattle.aqe_select.proofs.copies.copy_values.Given as goal

abbrev pub invariant-values : goal.invariant-values
invariant-values l = l.copied ≡ take l.value-index l.values
