-- the rectangles so far lie within the cells
use Rattle.std.proofs.Common.{◌≤◌, length}
use Rattle.std.specs.Prelude.{All}
use Rattle.aqe_rects.specs.Rectangles.{LiesWithin}
use Rattle.aqe_checks.proofs.task_bodies.rects_of.Given as goal

abbrev pub invariant-corners : goal.invariant-corners
invariant-corners l = All (LiesWithin l.maps l.reducers) l.rects × (length l.rects ≤ 101)
