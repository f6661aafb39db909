-- the runs that were walked have their rectangles behind those that were there
use Rattle.std.proofs.Common.{◌≡◌, ◌++◌, map}
use Rattle.std.specs.List.{range_with_len}
use Rattle.aqe_local_read.specs.LocalRects.{rect_of_map, run}
use Rattle.aqe_local_read.proofs.rects.add_map.Given as goal

abbrev pub invariant-runs : goal.invariant-runs
invariant-runs l = l.rects ≡ l.initial.rects ++ map (rect_of_map l.m) (map (run l.reducers l.cuts) (range_with_len 0 l.i))
