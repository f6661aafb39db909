-- the columns that were walked do not differ, so those that are left decide
use Rattle.std.proofs.Common.{◌≡◌, drop}
use Rattle.aqe_values.specs.KeyOrder.{key_order}
use Rattle.aqe_values.proofs.sort_way.compare_columns.Given as goal

abbrev pub invariant-ways : goal.invariant-ways
invariant-ways l = key_order (drop l.way-index l.ways) l.left l.right ≡ key_order l.ways l.a l.b
