use Rattle.std.proofs.Common.{length}
use Rattle.aqe_grouping.specs.Places.{item_values}
use Rattle.aqe_grouping.proofs.PlaceSteps.{IsLeft}
use Rattle.aqe_grouping.proofs.select_list.in_list.Given as goal

abbrev pub invariant-items : goal.invariant-items
invariant-items l = IsLeft l.columns (item_values l.columns) l.rest l.left l.list l.place

abbrev pub decreases-items : goal.decreases-items
decreases-items l = length l.rest
