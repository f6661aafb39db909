-- the rows that were walked are copied
use Rattle.std.proofs.Common.{◌≡◌, take}
use Rattle.aqe_blocks.proofs.cell.copy_of_rows.Given as goal

abbrev pub invariant-rows : goal.invariant-rows
invariant-rows l = l.copied ≡ take l.row-index l.rows
