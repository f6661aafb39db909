use Rattle.std.proofs.Common.{length}
use Rattle.aqe_trees.specs.Tables.{IsColumn}
use Rattle.aqe_syntax.proofs.Chain.{ListedSoFar}
use Rattle.aqe_syntax.proofs.tables.columns.Given as goal

abbrev pub invariant-more : goal.invariant-more
invariant-more l = ListedSoFar IsColumn l.columns l.terminals l.rest

abbrev pub decreases-more : goal.decreases-more
decreases-more l = length l.rest
