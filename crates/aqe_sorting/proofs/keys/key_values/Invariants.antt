-- the keys that were walked have their values
use Rattle.std.proofs.Common.{◌≡◌, take}
use Rattle.aqe_logical.specs.Order.{key_of}
use Rattle.aqe_sorting.proofs.keys.key_values.Given as goal

abbrev pub invariant-keys : goal.invariant-keys
invariant-keys l = l.values ≡ key_of (take l.key-index l.keys) l.row
