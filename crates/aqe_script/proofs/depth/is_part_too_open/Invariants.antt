use Rattle.aqe_script.proofs.DepthLemmas.{Counted}
use Rattle.aqe_script.proofs.depth.is_part_too_open.Given as goal

abbrev pub invariant-loop-token : goal.invariant-loop-token
invariant-loop-token l = Counted l.source l.part l.opened l.closed l.token-index
