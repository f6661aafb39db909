use Rattle.std.proofs.Common.{length}
use Rattle.aqe_trees.specs.Tables.{IsOption}
use Rattle.aqe_syntax.proofs.Chain.{ListedSoFar}
use Rattle.aqe_syntax.proofs.tables.options.Given as goal

abbrev pub invariant-more : goal.invariant-more
invariant-more l = ListedSoFar IsOption l.options l.terminals l.rest

abbrev pub decreases-more : goal.decreases-more
decreases-more l = length l.rest
