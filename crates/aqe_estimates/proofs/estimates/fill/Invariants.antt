-- the tables that are left, put in their places, give what all of them give
use Rattle.std.proofs.Common.{length}
use Rattle.aqe_estimates.proofs.Filling.{Fills}
use Rattle.aqe_estimates.proofs.estimates.fill.Given as goal

abbrev pub invariant-scanned : goal.invariant-scanned
invariant-scanned l = Fills l.tables l.scanned l.left l.fn.known.items l.known.items

abbrev pub decreases-scanned : goal.decreases-scanned
decreases-scanned l = length l.left
