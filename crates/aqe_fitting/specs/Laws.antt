-- The laws of plans that fit.
use Rattle.std.specs.Prelude.{ℕ, ◌≡◌, Bool, true, List, All}
use Rattle.aqe_base.specs.declared.join_kind.JoinKind.{JoinKind}
use Rattle.aqe_base.specs.Joins.{may_build}
use Rattle.aqe_logical.specs.declared.plan.Placement.{Placement}
use Rattle.aqe_logical.specs.declared.plan.Logical.{Logical}
use Rattle.aqe_settings.specs.declared.entry.Value.{Value}
use Rattle.aqe_physical.specs.declared.sizes.Estimate.{Estimate}
use Rattle.aqe_physical.specs.declared.sizes.StageSize.{StageSize}
use Rattle.aqe_settings.specs.Values.{partitions}
use Rattle.aqe_physical.specs.declared.target.JoinWay.{JoinWay}
use Rattle.aqe_physical.specs.declared.target.JoinWay.TheVariants as way
use Rattle.aqe_physical.specs.declared.plan.Plan.{Plan, Nothing, Read, ReadBroadcast}
use Rattle.aqe_physical.specs.Nodes.{nodes}
use Rattle.aqe_fitting.specs.Known.{files_of}
use Rattle.aqe_fitting.specs.Planning.{Planned}
use Rattle.aqe_fitting.specs.ReadsFit.{Facts, HasParts}
use Rattle.aqe_fitting.specs.Fits.{BodyFits, Fits, IsPlanned}

-- what chooses the way of a join; one that lets all ways be chosen that another one does, and one that chooses one way at most
abbrev pub Chooses : Type 1
Chooses = JoinKind → Logical → Logical → JoinWay → Type 0

abbrev pub LetsAll : Chooses → Chooses → Type 0
LetsAll more ways = (kind : JoinKind) (x y : Logical) (how : JoinWay) → ways kind x y how → more kind x y how

abbrev pub ChoosesOne : Chooses → Type 0
ChoosesOne ways = (kind : JoinKind) (x y : Logical) (how other : JoinWay) → ways kind x y how → ways kind x y other → how ≡ other

-- a choice by a test
abbrev pub by_test : (JoinKind → Logical → Logical → JoinWay → Bool) → Chooses
by_test test kind x y how = test kind x y how ≡ true

-- a plan that is planned by some ways is planned by more of them
abbrev pub PlannedByMoreWays : Type 0
PlannedByMoreWays = (ways more : JoinKind → Logical → Logical → JoinWay → Bool) (n : ℕ) (files : ℕ → ℕ) (x : Logical) (p : Plan) (w : Placement) →
    LetsAll (by_test more) (by_test ways) → Planned (by_test ways) n files x p w → Planned (by_test more) n files x p w

-- a side that a way builds is one that the kind lets build
abbrev pub may_be_built : Chooses
may_be_built kind x y way.SortMerge = Unit {0}
may_be_built kind x y (way.ShuffledHash side) = may_build kind side ≡ true
may_be_built kind x y (way.Broadcast side) = may_build kind side ≡ true
may_be_built kind x y way.NestedLoop = Unit {0}

-- a plan that is planned by sizes builds only sides that may be built
abbrev pub PlannedWithSidesThatMayBeBuilt : Type 0
PlannedWithSidesThatMayBeBuilt = (plan : Plan) (x : Logical) (estimates : List Estimate) (sizes : List StageSize) (settings : List Value) (w : Placement) →
    IsPlanned plan x estimates sizes settings w → Planned may_be_built (partitions settings) (files_of estimates) x plan w

-- the rows of all plans of a logical plan stand at one place
abbrev pub PlannedAtOnePlace : Type 0
PlannedAtOnePlace = (plan other : Plan) (x : Logical) (estimates : List Estimate) (sizes : List StageSize) (settings : List Value) (u w : Placement) →
    IsPlanned plan x estimates sizes settings u → IsPlanned other x estimates sizes settings w → u ≡ w

-- a plan that reads no stage has reads that fit, whatever is known of stages
abbrev pub IsNoRead : Plan → Type 0
IsNoRead (Read stage maps reducers rects) = ⊥
IsNoRead (ReadBroadcast stage) = ⊥
IsNoRead (Nothing parts width) = ⊥
IsNoRead node = Unit {0}

abbrev pub ReadsNothing : Plan → Type 0
ReadsNothing plan = All IsNoRead (nodes plan)

abbrev pub PlansWithoutReadsFit : Type 0
PlansWithoutReadsFit = (facts : Facts) (plan : Plan) → ReadsNothing plan → BodyFits facts plan × HasParts 1 plan

-- at most one plan fits
abbrev pub OnePlanFits : Type 0
OnePlanFits = (plan other : Plan) (x : Logical) (estimates : List Estimate) (sizes : List StageSize) (settings : List Value) →
    Fits plan x estimates sizes settings → Fits other x estimates sizes settings → plan ≡ other
