-- the bounds that were walked are picked
use Rattle.std.proofs.Common.{◌≡◌, ◌≤◌, ◌-◌}
use Rattle.aqe_ranges.specs.Lent.{rows_seen}
use Rattle.aqe_ranges.proofs.Picked.{picked}
use Rattle.aqe_ranges.proofs.bounding.bounds_among.Given as goal

abbrev pub invariant-bounds : goal.invariant-bounds
invariant-bounds l = (1 ≤ l.i) × (l.made ≡ picked 1 (rows_seen l.sorted) l.n (l.i - 1))
