use Rattle.std.proofs.Common.{length}
use Rattle.aqe_reader.specs.Steps.{SignsLeft}
use Rattle.aqe_reader.proofs.runs.signs.Given as goal

abbrev pub invariant-more : goal.invariant-more
invariant-more l = SignsLeft l.terminals l.rest l.signs

abbrev pub decreases-more : goal.decreases-more
decreases-more l = length l.rest
