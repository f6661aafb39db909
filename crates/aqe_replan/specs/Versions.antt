-- The versions of a query's plan.
use Rattle.std.specs.Prelude.{◌≡◌, Bool, true, false, ◌&&◌, not, cond, ◌⊎◌, Option, Some, None, List, [], ◌∷◌}
use Rattle.aqe_base.specs.declared.stage_id.StageId.{StageId}
use Rattle.aqe_physical.specs.declared.target.StageKind.{StageKind}
use Rattle.aqe_physical.specs.declared.target.StageKind.TheVariants as kind
use Rattle.aqe_physical.specs.declared.plan.Plan.{Plan}
use Rattle.aqe_making.specs.Ready.{is_ready}
use Rattle.aqe_making.specs.Makings.{Making, result_of, all_makings}
use Rattle.aqe_making.specs.After.{after, stage_at}
use Rattle.aqe_replan.specs.declared.versions.Versions.{Versions}
use Rattle.aqe_replan.specs.Seen.{listed}

-- whether a stage is the result
abbrev pub is_result : StageKind → Bool
is_result kind.Result = true
is_result other = false

-- what can be made, where the stages of a list are whole
abbrev pub ready_of : List StageId → Versions → List Making
ready_of stages versions = all_makings (listed stages) versions.has_result versions.plan

-- A making can be made: it is the result, or the stage of the exchange that stands at its place.
abbrev pub CanBeMade : Plan → Making → Type 0
CanBeMade plan making = (is_result making.stage.kind ≡ true) ⊎ (stage_at making.place plan ≡ Some making.stage)

-- the plan after a making got its number: a result changes nothing
abbrev pub plan_after : StageId → Making → Plan → Plan
plan_after number making plan = cond (is_result making.stage.kind) plan (after number making.place plan)

-- whether the result stage was made
abbrev pub result_after : Making → Bool → Bool
result_after making before = cond (is_result making.stage.kind) true before

-- what is made of the whole plan
abbrev pub results : List StageId → Versions → List Making
results stages versions = cond (is_ready (listed stages) versions.plan && not versions.has_result) (result_of versions.plan ∷ []) []

-- the plan after a making, or none after a result
abbrev pub IsAfter : StageId → Making → Plan → Option Plan → Type 0
IsAfter number making plan None = is_result making.stage.kind ≡ true
IsAfter number making plan (Some next) = (is_result making.stage.kind ≡ false) × (next ≡ after number making.place plan)

abbrev pub taken : Option Plan → Plan → Plan
taken None plan = plan
taken (Some next) plan = next

abbrev pub noted : Option Plan → Bool → Bool
noted None before = true
noted (Some next) before = before
