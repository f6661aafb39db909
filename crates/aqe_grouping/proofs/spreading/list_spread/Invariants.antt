use Rattle.std.proofs.Common.{length}
use Rattle.aqe_sources.specs.Seen.{items_seen}
use Rattle.aqe_grouping.proofs.SpreadSteps.{IsLeft}
use Rattle.aqe_grouping.proofs.spreading.list_spread.Given as goal

abbrev pub invariant-list : goal.invariant-list
invariant-list l = IsLeft l.has_from (items_seen l.items) l.rest l.list

abbrev pub decreases-list : goal.decreases-list
decreases-list l = length l.rest
