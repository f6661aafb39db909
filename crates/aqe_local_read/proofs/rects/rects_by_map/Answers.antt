use Rattle.std.proofs.Common.{rules}
use Rattle.aqe_local_read.proofs.Steps.{map_more}
use Rattle.aqe_local_read.proofs.rects.rects_by_map.Goals as goal

pub maps-preserved : goal.maps-preserved
maps-preserved c = map_more c.args.reducers c.args.cuts c.maps.m c.maps.rects _ c.maps.invariant (search rules)
