-- What follows of the stages that can be made.
use Rattle.std.specs.Prelude.{ℕ, ◌<◌, ◌≤◌, ◌*◌, ◌^◌, false, ◌≡◌, List, ◌∷◌, All}
use Rattle.aqe_base.specs.declared.stage_id.StageId.{StageId}
use Rattle.aqe_logical.specs.declared.plan.Logical.{Logical}
use Rattle.aqe_logical.specs.Nodes.{leaf_count}
use Rattle.aqe_settings.specs.declared.entry.Value.{Value}
use Rattle.aqe_settings.specs.Values.{partitions}
use Rattle.aqe_physical.specs.declared.sizes.Estimate.{Estimate}
use Rattle.aqe_physical.specs.declared.sizes.StageSize.{StageSize}
use Rattle.aqe_physical.specs.declared.plan.Plan.{Plan}
use Rattle.aqe_physical.specs.Counts.{PartsFit}
use Rattle.aqe_stages.specs.Making.{Made}
use Rattle.aqe_making.specs.Makings.{Making}
use Rattle.aqe_fitting.specs.Fits.{Fits}
use Rattle.aqe_planner.specs.Built.{IsBuilt}
use Rattle.aqe_replan.specs.declared.versions.Versions.{Versions}
use Rattle.aqe_replan.specs.Seen.{listed}
use Rattle.aqe_replan.specs.Versions.{ready_of, is_result, CanBeMade, plan_after, result_after}

-- each stage that is ready can be made
abbrev pub ReadyCanBeMade : Type 0
ReadyCanBeMade = (stages : List StageId) (versions : Versions) → All (CanBeMade versions.plan) (ready_of stages versions)

-- A stage that is no result is made of the plan, and the plan after it reads that stage, so that all its parts stay.
abbrev pub StagesAreMadeOfThePlan : Type 0
StagesAreMadeOfThePlan = (number : StageId) (making : Making) (plan : Plan) → CanBeMade plan making → is_result making.stage.kind ≡ false →
    Made number plan making.stage (plan_after number making plan)

-- Once the first stage that is ready was made, with a number that is not listed, those behind it are ready, in their order.
abbrev pub OthersStayReady : Type 0
OthersStayReady = (stages : List StageId) (number : StageId) (before next : Versions) (making : Making) (others : List Making) →
    listed stages number.0 ≡ false → ready_of stages before ≡ making ∷ others →
    next.plan ≡ plan_after number making before.plan → next.has_result ≡ result_after making before.has_result →
    ready_of stages next ≡ others

-- a table has at most so many files
abbrev pub HasFewFiles : ℕ → Estimate → Type 0
HasFewFiles most estimate = estimate.files ≤ most

-- The parts of a first plan can be numbered in 32 bits, if so many for each leaf of the query can: as many as no table has more files,
-- and no exchange more parts.
abbrev pub FirstPlansHaveFewParts : Type 0
FirstPlansHaveFewParts = (plan : Plan) (x : Logical) (estimates : List Estimate) (sizes : List StageSize) (settings : List Value) (most : ℕ) →
    Fits plan x estimates sizes settings → IsBuilt x → 1 ≤ most → leaf_count x * most < 2 ^ 32 → partitions settings ≤ most →
    All (HasFewFiles most) estimates → PartsFit plan
