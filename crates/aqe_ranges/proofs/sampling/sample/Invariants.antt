-- the keys that were walked are picked
use Rattle.std.proofs.Common.{◌≡◌, map}
use Rattle.aqe_logical.specs.Order.{key_of}
use Rattle.aqe_ranges.proofs.Picked.{picked}
use Rattle.aqe_ranges.proofs.sampling.sample.Given as goal

abbrev pub invariant-sampled : goal.invariant-sampled
invariant-sampled l = l.sampled ≡ picked 0 (map (key_of l.keys) l.rows) l.size l.i
