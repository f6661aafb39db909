use Rattle.aqe_syntax.proofs.Parsed.{FlatSoFar}
use Rattle.std.proofs.Common.{length}
use Rattle.aqe_syntax.proofs.parsing.has_too_nested.Given as goal

abbrev pub invariant-more : goal.invariant-more
invariant-more l = FlatSoFar l.script l.left

abbrev pub decreases-more : goal.decreases-more
decreases-more l = length l.left
