-- the greatest so far and the greatest of those that are left are the greatest of all
use Rattle.std.proofs.Common.{◌≡◌, length, max}
use Rattle.aqe_estimates.specs.Estimates.{reach}
use Rattle.aqe_estimates.proofs.estimates.reach.Given as goal

abbrev pub invariant-scanned : goal.invariant-scanned
invariant-scanned l = max l.end (reach l.left) ≡ reach l.scanned

abbrev pub decreases-scanned : goal.decreases-scanned
decreases-scanned l = length l.left
