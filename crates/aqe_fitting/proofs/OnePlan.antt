-- At most one plan fits.
use Rattle.std.proofs.Common.{◌≡◌, refl, sym, ◌∙◌, subst, List}
use Rattle.aqe_base.specs.declared.join_kind.JoinKind.{JoinKind}
use Rattle.aqe_logical.specs.declared.plan.Logical.{Logical}
use Rattle.aqe_settings.specs.declared.entry.Value.{Value}
use Rattle.aqe_settings.specs.Values.{partitions}
use Rattle.aqe_coalesce.proofs.Unique.{one_list}
use Rattle.aqe_skew.proofs.OnePairing.{one}
use Rattle.aqe_physical.specs.declared.sizes.Estimate.{Estimate}
use Rattle.aqe_physical.specs.declared.sizes.StageSize.{StageSize}
use Rattle.aqe_physical.specs.declared.target.JoinWay.{JoinWay}
use Rattle.aqe_fitting.specs.InForce.{in_force}
use Rattle.aqe_fitting.specs.Known.{files_of}
use Rattle.aqe_join_switch.specs.declared.sizes.JoinChoice.{JoinChoice}
use Rattle.aqe_join_switch.specs.declared.sizes.JoinChoice.TheVariants as choice
use Rattle.aqe_join_switch.specs.Choice.{choice as chosen_way}
use Rattle.aqe_join_switch.specs.Laws.{BuildsWhatMayBeBuilt}
use Rattle.aqe_join_switch.proofs.Built.{built}
use Rattle.aqe_fitting.specs.Ways.{ways_by_sizes, way_of, side_sizes, join_rule}
use Rattle.aqe_fitting.specs.Fits.{facts_of}
use Rattle.aqe_fitting.specs.Laws.{ChoosesOne, OnePlanFits, PlannedAtOnePlace, PlannedWithSidesThatMayBeBuilt, may_be_built}
use Rattle.aqe_fitting.proofs.Grows.{grows}
use Rattle.aqe_fitting.proofs.OneShape.{same}
use Rattle.aqe_fitting.proofs.OneReads.{bodies_same, settled}

-- sizes choose one way
one_way : (estimates : List Estimate) (sizes : List StageSize) (values : List Value) → ChoosesOne (ways_by_sizes estimates sizes values)
one_way estimates sizes values kind x y how other e f = e ∙ sym f

-- the place of all plans
pub one_place : PlannedAtOnePlace
one_place plan other x estimates sizes settings u w h g =
    (same (ways_by_sizes estimates sizes (in_force settings)) (partitions settings) (files_of estimates)
    (one_way estimates sizes (in_force settings)) x plan other u w h g).1

-- a side that is chosen may be built
built_by : (kind : JoinKind) (x y : Logical) (chosen : JoinChoice) → BuildsWhatMayBeBuilt kind chosen → may_be_built kind x y (way_of chosen)
built_by kind x y (choice.Broadcast side) h = h
built_by kind x y (choice.ShuffledHash side) h = h
built_by kind x y choice.SortMerge h = tt

pub buildable : PlannedWithSidesThatMayBeBuilt
buildable plan x estimates sizes settings w h =
    let values : List Value = in_force settings in
    grows (ways_by_sizes estimates sizes values) may_be_built (partitions settings) (files_of estimates) x plan w
    (λ kind a b how e.
    let sides = built_by kind a b (chosen_way kind (side_sizes estimates sizes a) (side_sizes estimates sizes b) (join_rule values))
    (built kind (side_sizes estimates sizes a) (side_sizes estimates sizes b) (join_rule values)) in
    subst (λ (t : JoinWay). may_be_built kind a b t) (sym e) sides)
    h

pub one_plan : OnePlanFits
one_plan plan other x estimates sizes settings h g =
    let alike = (same (ways_by_sizes estimates sizes (in_force settings)) (partitions settings) (files_of estimates)
    (one_way estimates sizes (in_force settings)) x plan other h.0.0 g.0.0 h.0.1 g.0.1).0 in
    settled plan other 1 (bodies_same (facts_of x sizes settings) one_list one plan other alike h.1 g.1) h.2 g.2
