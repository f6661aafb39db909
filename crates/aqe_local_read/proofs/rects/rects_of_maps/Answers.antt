use Rattle.std.proofs.Common.{rules}
use Rattle.aqe_local_read.proofs.Steps.{maps_more}
use Rattle.aqe_local_read.proofs.rects.rects_of_maps.Goals as goal

pub runs-preserved : goal.runs-preserved
runs-preserved c =
    maps_more c.args.maps c.args.reducers c.args.wanted c.runs.i c.run_start.result c.run_start-in-runs.result c.runs.rects _ c.runs.invariant
    c.run_start.ensures c.run_start-in-runs.ensures (search rules)
