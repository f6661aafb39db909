-- The laws of the choice.
use Rattle.std.specs.Prelude.{◌≡◌, true, Option, None}
use Rattle.aqe_base.specs.declared.join_kind.JoinKind.{JoinKind}
use Rattle.aqe_base.specs.Joins.{may_build}
use Rattle.aqe_join_switch.specs.declared.sizes.JoinRule.{JoinRule}
use Rattle.aqe_join_switch.specs.declared.sizes.JoinChoice.{JoinChoice}
use Rattle.aqe_join_switch.specs.declared.sizes.JoinChoice.TheVariants.{Broadcast, ShuffledHash, SortMerge}
use Rattle.aqe_join_switch.specs.Choice.{SideData, choice}

-- the side that a choice builds may be built
abbrev pub BuildsWhatMayBeBuilt : JoinKind → JoinChoice → Type 0
BuildsWhatMayBeBuilt kind (Broadcast side) = may_build kind side ≡ true
BuildsWhatMayBeBuilt kind (ShuffledHash side) = may_build kind side ≡ true
BuildsWhatMayBeBuilt kind SortMerge = Unit {0}

abbrev pub ChosenSidesMayBeBuilt : Type 0
ChosenSidesMayBeBuilt = (kind : JoinKind) (left right : Option SideData) (rule : JoinRule) → BuildsWhatMayBeBuilt kind (choice kind left right rule)

-- where nothing is known of either side, they are sorted and merged
abbrev pub UnknownSidesAreMerged : Type 0
UnknownSidesAreMerged = (kind : JoinKind) (rule : JoinRule) → choice kind None None rule ≡ SortMerge
