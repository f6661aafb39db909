-- the runs that were walked have their rectangles
use Rattle.std.proofs.Common.{◌≡◌, map}
use Rattle.std.specs.List.{range_with_len}
use Rattle.aqe_local_read.specs.LocalRects.{rect_of_maps, run}
use Rattle.aqe_local_read.proofs.rects.rects_of_maps.Given as goal

abbrev pub invariant-runs : goal.invariant-runs
invariant-runs l = l.rects ≡ map (rect_of_maps l.reducers) (map (run l.maps l.wanted) (range_with_len 0 l.i))
