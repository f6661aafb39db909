-- What a run keeps of its plan and of each stage that it has made: words of the proof that each stage can be carried out.
use Rattle.std.specs.Prelude.{◌≡◌, length, All}
use Rattle.aqe_logical.specs.Answers.{Tables}
use Rattle.aqe_stages.specs.Stages.{Stage, Stages}
use Rattle.aqe_stages.specs.Parts.{all}
use Rattle.aqe_stages.specs.Reads.{ReadsBelow}
use Rattle.aqe_stages.specs.Runnable.{CanKeep}
use Rattle.aqe_bodies.specs.Laws.{RunsOver, RangesNameSamples}
use Rattle.aqe_fit_laws.specs.Serving.{WithoutExchange}
use Rattle.aqe_scheduler.specs.Looks.{births}
use Rattle.aqe_journal.specs.Asked.{Asked}
use Rattle.aqe_journal.specs.States.{State, history}

-- what a run keeps of each stage: it runs over all stages, has no exchange, reads stages that are there, and its kind can keep what it gives
pub record Kept (tables : Tables) (stages : Stages) (stage : Stage) : Type 0 where
  pub runs : RunsOver tables stages stage.body
  pub none : WithoutExchange stage.body
  pub below : ReadsBelow (length stages) stage.body
  pub keeps : CanKeep stages stage.kind (all tables stages stage.body)

-- as many births as stages
abbrev pub AllBorn : State → Type 0
AllBorn now = length (births (history now)) ≡ length now.stages

-- and of its current plan
pub record Steady (asked : Asked) (now : State) : Type 0 where
  pub runs : RunsOver asked.tables now.stages now.plan
  pub below : ReadsBelow (length now.stages) now.plan
  pub ranges : RangesNameSamples now.stages now.plan
  pub made : All (Kept asked.tables now.stages) now.stages
  pub born : AllBorn now
