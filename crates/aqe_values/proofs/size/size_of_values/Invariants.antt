-- the values that were walked are summed, and no sum is beyond what as many of the longest texts take
use Rattle.std.proofs.Common.{◌≡◌, ◌≤◌, ◌*◌, take}
use Rattle.aqe_values.specs.Sizes.{row_size_of}
use Rattle.aqe_values.proofs.size.size_of_values.Given as goal

abbrev pub invariant-values : goal.invariant-values
invariant-values l = (l.size ≡ row_size_of (take l.value-index l.values)) × (l.size ≤ l.value-index * 67108869)
