-- the cells of the maps that were walked are appended
use Rattle.std.proofs.Common.{◌≡◌, ◌≤◌, ◌++◌}
use Rattle.aqe_operators.specs.Lent.{lent_rows}
use Rattle.aqe_task.specs.Pieces.{kept_column}
use Rattle.aqe_task.proofs.reading.lend_column.Given as goal

abbrev pub invariant-maps : goal.invariant-maps
invariant-maps l = (lent_rows l.pieces.items ≡ lent_rows l.fn.pieces.items ++ kept_column l.outputs l.stage.0 l.m0 l.m l.r) × (l.m1 ≤ l.m0 → l.m ≡ l.m0)
