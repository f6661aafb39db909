-- the values of the items that were walked
use Rattle.std.proofs.Common.{◌≡◌, take}
use Rattle.aqe_logical.specs.Groups as spec
use Rattle.aqe_operators.proofs.projecting.row_of.Given as goal

abbrev pub invariant-items : goal.invariant-items
invariant-items l = l.made ≡ spec.row_of (take l.item-index l.items) l.row
