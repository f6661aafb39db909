use Rattle.std.proofs.Common.{length}
use Rattle.aqe_trees.specs.Queries.{IsItem}
use Rattle.aqe_syntax.proofs.Chain.{ListedSoFar}
use Rattle.aqe_syntax.proofs.parts.items.Given as goal

abbrev pub invariant-more : goal.invariant-more
invariant-more l = ListedSoFar IsItem l.items l.terminals l.rest

abbrev pub decreases-more : goal.decreases-more
decreases-more l = length l.rest
