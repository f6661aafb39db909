-- the cells that were walked are copied
use Rattle.std.proofs.Common.{◌≡◌, take}
use Rattle.aqe_blocks.proofs.map_output.copy_of_cells.Given as goal

abbrev pub invariant-cells : goal.invariant-cells
invariant-cells l = l.copied ≡ take l.rows-index l.cells
