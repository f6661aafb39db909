use Rattle.std.proofs.Common.{◌∙◌, ◌++◌, ap, sym, [], slice_index_or}
use Rattle.std.specs.Option.{unwrap_or}
use Rattle.aqe_session.specs.Finished as spec
use Rattle.aqe_session.proofs.Rows.{rows_more, rows_end}
use Rattle.aqe_session.proofs.record.stage_rows.Goals as goal

pub maps-preserved : goal.maps-preserved
maps-preserved c =
    rows_more (spec.first_cell c.args.outputs.now c.args.stage.0) c.maps.m c.maps.rows c.push_rows.new.rows c.maps.invariant
    (c.in_ok-push_rows.ensures ∙ ap (λ cell. c.maps.rows ++ cell) (c.cell.ensures ∙ ap (λ o. slice_index_or (unwrap_or o []) 0 []) (sym c.output-output.ensures.value)))

pub returns : goal.returns
returns c = rows_end (spec.first_cell c.args.outputs.now c.args.stage.0) c.maps.m c.args.maps c.maps.rows c.maps.invariant c.maps.auto.m-end c.maps-test.false
