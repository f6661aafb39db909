-- the maps that were walked have their rectangles
use Rattle.std.proofs.Common.{◌≡◌}
use Rattle.std.specs.Prelude.{flat_map}
use Rattle.std.specs.List.{range_with_len}
use Rattle.aqe_local_read.specs.LocalRects.{rects_of_map}
use Rattle.aqe_local_read.proofs.rects.rects_by_map.Given as goal

abbrev pub invariant-maps : goal.invariant-maps
invariant-maps l = l.rects ≡ flat_map (rects_of_map l.reducers l.cuts) (range_with_len 0 l.m)
