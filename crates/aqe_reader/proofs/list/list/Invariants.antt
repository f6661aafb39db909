use Rattle.std.proofs.Common.{length}
use Rattle.aqe_reader.proofs.ListChain.{ListLeft}
use Rattle.aqe_reader.proofs.list.list.Given as goal

abbrev pub invariant-more : goal.invariant-more
invariant-more g l = ListLeft l.terminals l.rest l.items

abbrev pub decreases-more : goal.decreases-more
decreases-more g l = length l.rest
