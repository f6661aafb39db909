-- the cells of the reducers that were walked
use Rattle.std.proofs.Common.{◌≡◌, ◌≤◌}
use Rattle.std.specs.Prelude.{flat_map}
use Rattle.aqe_operators.specs.Lent.{lent_rows}
use Rattle.aqe_stages.specs.Cells.{numbers}
use Rattle.aqe_task.specs.Pieces.{kept_column}
use Rattle.aqe_task.proofs.reading.read.Given as goal

abbrev pub invariant-reducers : goal.invariant-reducers
invariant-reducers l =
    (lent_rows l.pieces.items ≡ flat_map (kept_column l.outputs l.stage.0 l.rect.m0 l.rect.m1) (numbers l.rect.r0 l.r)) ×
    (l.rect.r1 ≤ l.rect.r0 → l.r ≡ l.rect.r0)
