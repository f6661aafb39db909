-- the columns that were walked do not differ, so those that are left decide
use Rattle.std.proofs.Common.{◌≡◌, drop}
use Rattle.aqe_logical.specs.Order.{ways_of}
use Rattle.aqe_values.specs.KeyOrder.{key_order}
use Rattle.aqe_sorting.proofs.keys.compare_keys.Given as goal

abbrev pub invariant-keys : goal.invariant-keys
invariant-keys l = key_order (ways_of (drop l.key-index l.keys)) l.left l.right ≡ key_order (ways_of l.keys) l.a l.b
