-- the rows that were walked are lent
use Rattle.std.proofs.Common.{◌≡◌, take}
use Rattle.aqe_ranges.specs.Lent.{rows_seen}
use Rattle.aqe_ranges.proofs.bounding.lend.Given as goal

abbrev pub invariant-rows : goal.invariant-rows
invariant-rows l = rows_seen l.lent.items ≡ take l.row-index l.rows
