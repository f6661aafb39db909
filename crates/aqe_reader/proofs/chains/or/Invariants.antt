use Rattle.std.proofs.Common.{length}
use Rattle.aqe_reader.proofs.OrChain.{OrLeft}
use Rattle.aqe_reader.proofs.chains.or.Given as goal

abbrev pub invariant-more : goal.invariant-more
invariant-more g l = OrLeft l.terminals l.rest l.first l.items

abbrev pub decreases-more : goal.decreases-more
decreases-more g l = length l.rest
