use Rattle.std.proofs.Common.{length}
use Rattle.aqe_reader.specs.Steps.{NotsLeft}
use Rattle.aqe_reader.proofs.runs.nots.Given as goal

abbrev pub invariant-more : goal.invariant-more
invariant-more l = NotsLeft l.terminals l.rest l.count

abbrev pub decreases-more : goal.decreases-more
decreases-more l = length l.rest
