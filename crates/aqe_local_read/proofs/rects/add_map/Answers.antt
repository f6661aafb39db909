use Rattle.std.proofs.Common.{rules}
use Rattle.aqe_local_read.proofs.Steps.{reducers_more}
use Rattle.aqe_local_read.proofs.rects.add_map.Goals as goal

pub runs-preserved : goal.runs-preserved
runs-preserved c =
    reducers_more c.args.m c.args.reducers c.args.cuts c.runs.i c.run_start.result c.run_start-in-runs.result c.args.rects.now c.runs.rects _ c.runs.invariant
    c.run_start.ensures c.run_start-in-runs.ensures (search rules)
