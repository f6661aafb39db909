-- The laws of what runs.
use Rattle.std.specs.Prelude.{◌≡◌, Some, [], ◌∷◌, ◌++◌, length, All}
use Rattle.aqe_base.specs.declared.stage_id.StageId.{StageId}
use Rattle.aqe_logical.specs.Answers.{Tables}
use Rattle.aqe_physical.specs.declared.target.Target.TheVariants.{Range}
use Rattle.aqe_physical.specs.declared.plan.Plan.{Plan}
use Rattle.aqe_physical.specs.Shapes.{moved}
use Rattle.aqe_physical.specs.Nodes.{nodes}
use Rattle.aqe_stages.specs.Stages.{Stage, Stages}
use Rattle.aqe_stages.specs.Parts.{all}
use Rattle.aqe_stages.specs.Reads.{ReadsBelow, KindNamesSample}
use Rattle.aqe_stages.specs.Making.{Made}
use Rattle.aqe_stages.specs.Runnable.{Runnable, CanKeep, NamesItsSample}
use Rattle.aqe_fit_laws.specs.Serving.{RunsAt, WithoutExchange}

-- a plan runs where each plan within it does
abbrev pub RunsOver : Tables → Stages → Plan → Type 0
RunsOver tables stages plan = All (RunsAt tables stages) (nodes plan)

abbrev pub LaterStagesKeepRunning : Type 0
LaterStagesKeepRunning = (tables : Tables) (stages more : Stages) (plan : Plan) → ReadsBelow (length stages) plan →
    RunsOver tables stages plan → RunsOver tables (stages ++ more) plan

abbrev pub MakingsKeepRunning : Type 0
MakingsKeepRunning = (tables : Tables) (stages : Stages) (number : StageId) (before after : Plan) (stage : Stage) →
    number.0 ≡ length stages → ReadsBelow (length stages) before → Made number before stage after → WithoutExchange stage.body →
    RunsOver tables stages before → RunsOver tables (stages ++ stage ∷ []) after

-- a range that names a stage names one that holds samples
abbrev pub NamesSamplesAt : Stages → Plan → Type 0
NamesSamplesAt stages (moved (Range keys n (Some stage)) child) = NamesItsSample stages (Some stage)
NamesSamplesAt stages node = Unit {0}

abbrev pub RangesNameSamples : Stages → Plan → Type 0
RangesNameSamples stages plan = All (NamesSamplesAt stages) (nodes plan)

abbrev pub LaterStagesKeepSamples : Type 0
LaterStagesKeepSamples = (stages more : Stages) (plan : Plan) → RangesNameSamples stages plan → RangesNameSamples (stages ++ more) plan

-- the sample stage that is made of a range is the newest stage, and the range names it
abbrev pub MakingsKeepSamples : Type 0
MakingsKeepSamples = (stages : Stages) (number : StageId) (before after : Plan) (stage : Stage) →
    number.0 ≡ length stages → Made number before stage after → RangesNameSamples stages before → RangesNameSamples (stages ++ stage ∷ []) after

-- a range of which a shuffle is made names its sample, since else its sample stage is made first
abbrev pub BodiesOfStagesRun : Type 0
BodiesOfStagesRun = (tables : Tables) (stages : Stages) (number : StageId) (before after : Plan) (stage : Stage) →
    Made number before stage after → WithoutExchange stage.body → KindNamesSample stage.kind → RangesNameSamples stages before →
    RunsOver tables stages before → Runnable tables stages stage.body × CanKeep stages stage.kind (all tables stages stage.body)
