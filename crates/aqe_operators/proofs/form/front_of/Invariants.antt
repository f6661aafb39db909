-- the values that were walked are copied
use Rattle.std.proofs.Common.{◌≡◌, take}
use Rattle.aqe_operators.proofs.form.front_of.Given as goal

abbrev pub invariant-values : goal.invariant-values
invariant-values l = l.front ≡ take l.value-index l.row
