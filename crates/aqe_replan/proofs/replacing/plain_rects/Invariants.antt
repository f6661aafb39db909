use Rattle.std.proofs.Common.{◌≡◌}
use Rattle.aqe_rects.specs.Rectangles.{plain_rects}
use Rattle.aqe_replan.proofs.replacing.plain_rects.Given as goal

abbrev pub invariant-reducers : goal.invariant-reducers
invariant-reducers l = l.all ≡ plain_rects l.maps l.r
