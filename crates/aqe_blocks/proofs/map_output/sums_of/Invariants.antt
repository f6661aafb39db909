-- the cells that were walked are measured
use Rattle.std.proofs.Common.{take}
use Rattle.aqe_blocks.specs.Cells.{IsMeasured}
use Rattle.aqe_blocks.proofs.map_output.sums_of.Given as goal

abbrev pub invariant-cells : goal.invariant-cells
invariant-cells l = IsMeasured (take l.rows-index l.cells) l.sums.sizes.items l.sums.size l.sums.rows
