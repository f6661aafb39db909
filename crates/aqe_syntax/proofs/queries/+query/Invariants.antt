use Rattle.std.proofs.Common.{◌+◌, ◌*◌, length}
use Rattle.aqe_syntax.proofs.Rules.{CoresSoFar, FromSoFar, JoinedSoFar}
use Rattle.aqe_syntax.proofs.queries.+query.Given as goal

abbrev pub decreases-boxed_query : goal.decreases-boxed_query
decreases-boxed_query l = 16 * length l.terminals.now + 6

abbrev pub decreases-union : goal.decreases-union
decreases-union l = 16 * length l.terminals.now + 5

abbrev pub decreases-cores : goal.decreases-cores
decreases-cores l = 16 * length l.terminals.now + 5

abbrev pub decreases-core : goal.decreases-core
decreases-core l = 16 * length l.terminals.now + 4

abbrev pub decreases-nested : goal.decreases-nested
decreases-nested l = 16 * length l.terminals.now + 7

abbrev pub decreases-select : goal.decreases-select
decreases-select l = 16 * length l.terminals.now + 3

abbrev pub decreases-from : goal.decreases-from
decreases-from l = 16 * length l.terminals.now + 2

abbrev pub decreases-joined : goal.decreases-joined
decreases-joined l = 16 * length l.terminals.now + 1

abbrev pub decreases-step : goal.decreases-step
decreases-step l = 16 * length l.terminals.now + 1

abbrev pub decreases-source : goal.decreases-source
decreases-source l = 16 * length l.terminals.now + 0

abbrev pub invariant-cores-more : goal.invariant-cores-more
invariant-cores-more l = CoresSoFar l.cores l.terminals l.rest

abbrev pub decreases-cores-more : goal.decreases-cores-more
decreases-cores-more l = length l.rest

abbrev pub invariant-from-more : goal.invariant-from-more
invariant-from-more l = FromSoFar l.sources l.terminals l.rest

abbrev pub decreases-from-more : goal.decreases-from-more
decreases-from-more l = length l.rest

abbrev pub invariant-joined-more : goal.invariant-joined-more
invariant-joined-more l = JoinedSoFar l.first l.steps l.terminals l.rest

abbrev pub decreases-joined-more : goal.decreases-joined-more
decreases-joined-more l = length l.rest
