use Rattle.std.proofs.Common.{length}
use Rattle.aqe_grouping.specs.Places.{shown_value}
use Rattle.aqe_grouping.proofs.PlaceSteps.{IsLeft}
use Rattle.aqe_grouping.proofs.select_list.among_columns.Given as goal

abbrev pub invariant-columns : goal.invariant-columns
invariant-columns l = IsLeft l.columns (shown_value l.item) l.rest l.left l.columns l.place

abbrev pub decreases-columns : goal.decreases-columns
decreases-columns l = length l.rest
