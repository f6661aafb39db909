use Rattle.std.proofs.Common.{arith}
use Rattle.aqe_operators.specs.Lent.{lent_rows}
use Rattle.aqe_task.specs.Pieces.{kept_cell}
use Rattle.aqe_task.proofs.Lending.{lent_next}
use Rattle.aqe_task.proofs.reading.lend_column.Goals as goal

pub maps-preserved : goal.maps-preserved
maps-preserved c = (
  lent_next c.push.new.self.items c.maps.pieces.items c.cell_at.result (lent_rows c.args.pieces.now.items)
      (λ m. kept_cell c.args.outputs.now c.args.stage.0 m c.args.r) c.args.m0 c.maps.m c.maps.auto.m c.in_ok-push.ensures.items c.maps.invariant.0 c.cell_at.ensures,
  (λ h. absurd (omega (arith, h, c.maps.auto.m, c.maps-test.true))),
)
