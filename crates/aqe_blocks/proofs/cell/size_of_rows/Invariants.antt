-- the rows that were walked are summed
use Rattle.std.proofs.Common.{◌≡◌, take}
use Rattle.aqe_blocks.specs.Cells.{size_of_cell}
use Rattle.aqe_blocks.proofs.cell.size_of_rows.Given as goal

abbrev pub invariant-rows : goal.invariant-rows
invariant-rows l = l.size ≡ size_of_cell (take l.row-index l.rows)
