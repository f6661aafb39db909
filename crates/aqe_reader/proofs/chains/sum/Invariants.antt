use Rattle.std.proofs.Common.{length}
use Rattle.aqe_reader.proofs.SumChain.{SumLeft}
use Rattle.aqe_reader.proofs.chains.sum.Given as goal

abbrev pub invariant-more : goal.invariant-more
invariant-more g l = SumLeft l.terminals l.rest l.first l.items

abbrev pub decreases-more : goal.decreases-more
decreases-more g l = length l.rest
