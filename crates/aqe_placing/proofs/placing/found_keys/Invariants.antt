use Rattle.std.proofs.Common.{◌≡◌, Some, take}
use Rattle.aqe_fitting.specs.Placing.{each_found}
use Rattle.aqe_placing.specs.Columns.{found_by}
use Rattle.aqe_placing.proofs.placing.found_keys.Given as goal

abbrev pub invariant-keys : goal.invariant-keys
invariant-keys l = each_found (found_by l.remade l.items) (take l.key-index l.keys) ≡ Some l.made
