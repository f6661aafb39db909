-- the rows of the maps before the next one are there
use Rattle.std.proofs.Common.{◌≡◌}
use Rattle.std.specs.List.{range_with_len, flat_map}
use Rattle.aqe_session.specs.Finished as spec
use Rattle.aqe_session.proofs.record.stage_rows.Given as goal

abbrev pub invariant-maps : goal.invariant-maps
invariant-maps l = l.rows ≡ flat_map (spec.first_cell l.outputs l.stage.0) (range_with_len 0 l.m)
