use Rattle.std.proofs.Common.{length}
use Rattle.aqe_trees.specs.Queries.{IsSort}
use Rattle.aqe_syntax.proofs.Chain.{ListedSoFar}
use Rattle.aqe_syntax.proofs.parts.sorts.Given as goal

abbrev pub invariant-more : goal.invariant-more
invariant-more l = ListedSoFar IsSort l.sorts l.terminals l.rest

abbrev pub decreases-more : goal.decreases-more
decreases-more l = length l.rest
