-- The laws of making.
use Rattle.std.specs.Prelude.{ℕ, Bool, true, false, ◌≡◌, List, [], ◌∷◌, All, Some}
use Rattle.aqe_base.specs.declared.stage_id.StageId.{StageId}
use Rattle.aqe_logical.specs.declared.plan.Logical.{Logical}
use Rattle.aqe_logical.specs.Columns.{schema_of}
use Rattle.aqe_physical.specs.declared.plan.Plan.{Plan}
use Rattle.aqe_physical.specs.Counts.{PartsFit}
use Rattle.aqe_stages.specs.Stages.{Stage}
use Rattle.aqe_stages.specs.Making.{Made}
use Rattle.aqe_making.specs.Ready.{is_ready}
use Rattle.aqe_making.specs.Makings.{Place, Making, makings, all_makings}
use Rattle.aqe_making.specs.After.{after, stage_at}
use Rattle.aqe_making.specs.Held.{logical_after}
use Rattle.aqe_making.specs.Next.{Next}

-- the next stage and both plans after it are determined
abbrev pub AtMostOneIsNext : Type 0
AtMostOneIsNext = (whole : ℕ → Bool) (number : StageId) (x : Logical) (p : Plan) (stage stage2 : Stage) (x1 x2 : Logical) (p1 p2 : Plan) →
    Next whole number x p stage x1 p1 → Next whole number x p stage2 x2 p2 → (stage ≡ stage2) × (x1 ≡ x2) × (p1 ≡ p2)

-- each stage that can be made is that of an exchange which stands at its place
abbrev pub MakingsStandInThePlan : Type 0
MakingsStandInThePlan = (whole : ℕ → Bool) (plan : Plan) → All (λ making. stage_at making.place plan ≡ Some making.stage) (makings whole plan)

-- and its body is ready
abbrev pub MakingsAreReady : Type 0
MakingsAreReady = (whole : ℕ → Bool) (plan : Plan) → All (λ making. is_ready whole making.stage.body ≡ true) (makings whole plan)

-- the next stage is made of the plan, and the plan after it reads that stage
abbrev pub NextIsMade : Type 0
NextIsMade = (whole : ℕ → Bool) (number : StageId) (x : Logical) (p : Plan) (stage : Stage) (x1 : Logical) (p1 : Plan) →
    Next whole number x p stage x1 p1 → Made number p stage p1

-- what is made at a place is made of the plan
abbrev pub StagesAreMade : Type 0
StagesAreMade = (number : StageId) (place : Place) (plan : Plan) (stage : Stage) →
    stage_at place plan ≡ Some stage → Made number plan stage (after number place plan)

-- Stages that are made one by one, each with a number that is not whole, are those that could be made at once, in that order.
abbrev pub MadeOneByOne : Type 0
MadeOneByOne = (whole : ℕ → Bool) (number : StageId) (plan : Plan) (making : Making) (others : List Making) →
    whole number.0 ≡ false → makings whole plan ≡ making ∷ others → makings whole (after number making.place plan) ≡ others

-- The same for the plan of a query: while an exchange can be made no result can, and none can once it was made.
abbrev pub QueriesMadeOneByOne : Type 0
QueriesMadeOneByOne = (whole : ℕ → Bool) (has_result : Bool) (number : StageId) (plan : Plan) (making : Making) (others : List Making) →
    whole number.0 ≡ false → makings whole plan ≡ making ∷ others →
    (all_makings whole has_result plan ≡ making ∷ others) × (all_makings whole has_result (after number making.place plan) ≡ others)

-- the result is made where no exchange is left
abbrev pub ReadyHasNoOther : Type 0
ReadyHasNoOther = (whole : ℕ → Bool) (plan : Plan) → is_ready whole plan ≡ true → makings whole plan ≡ []

-- a plan of which a stage was just made reads a stage that is not whole
abbrev pub NotReadyAfter : Type 0
NotReadyAfter = (whole : ℕ → Bool) (number : StageId) (place : Place) (plan : Plan) (stage : Stage) →
    whole number.0 ≡ false → stage_at place plan ≡ Some stage → is_ready whole (after number place plan) ≡ false

-- the parts of each plan within a plan can be numbered in 32 bits after a stage was made, if they could before
abbrev pub PartsStillFit : Type 0
PartsStillFit = (number : StageId) (place : Place) (plan : Plan) → PartsFit plan → PartsFit (after number place plan)

-- and so can those of the body of a stage that is made of it
abbrev pub BodiesFit : Type 0
BodiesFit = (place : Place) (plan : Plan) (stage : Stage) → stage_at place plan ≡ Some stage → PartsFit plan → PartsFit stage.body

-- the logical plan after a stage was made has the columns of the plan before
abbrev pub ColumnsStay : Type 0
ColumnsStay = (number : StageId) (x : Logical) (place : Place) (p : Plan) → schema_of (logical_after number x place p) ≡ schema_of x
