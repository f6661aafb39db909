use Rattle.std.proofs.Common.{length}
use Rattle.aqe_reader.proofs.AndChain.{AndLeft}
use Rattle.aqe_reader.proofs.chains.and.Given as goal

abbrev pub invariant-more : goal.invariant-more
invariant-more g l = AndLeft l.terminals l.rest l.first l.items

abbrev pub decreases-more : goal.decreases-more
decreases-more g l = length l.rest
