-- the rows that were walked stand in their cells
use Rattle.std.proofs.Common.{◌≡◌}
use Rattle.aqe_places.specs.Places.{exchanged}
use Rattle.aqe_ranges.specs.Order.{range_place}
use Rattle.aqe_ranges.proofs.writing.spread_range.Given as goal

abbrev pub invariant-rows : goal.invariant-rows
invariant-rows l = l.parts ≡ exchanged (range_place l.keys l.bounds) l.n l.yielded
