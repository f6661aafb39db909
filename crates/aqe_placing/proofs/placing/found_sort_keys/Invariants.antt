use Rattle.std.proofs.Common.{◌≡◌, Some, take}
use Rattle.aqe_fitting.specs.Placing.{each_found, found_key, kept_column}
use Rattle.aqe_placing.proofs.placing.found_sort_keys.Given as goal

abbrev pub invariant-keys : goal.invariant-keys
invariant-keys l = each_found (found_key (kept_column l.items)) (take l.key-index l.keys) ≡ Some l.made
