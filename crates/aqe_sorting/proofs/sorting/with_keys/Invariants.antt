-- each row that came has its pair
use Rattle.std.proofs.Common.{◌≡◌, map}
use Rattle.aqe_sorting.specs.Pairs.{keyed}
use Rattle.aqe_sorting.proofs.sorting.with_keys.Given as goal

abbrev pub invariant-rows : goal.invariant-rows
invariant-rows l = l.pairs.items ≡ map (keyed l.keys) l.yielded
