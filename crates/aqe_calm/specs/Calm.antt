-- What holds of a run in which nothing but the rest ends tasks: words of its proof.
use Rattle.std.specs.Prelude.{ℕ, ◌≡◌, ◌≤◌, true, false, List, [], ◌∷◌, ◌++◌, length, is_some, slice_get, Option, Some, None, All}
use Rattle.aqe_logical.specs.Answers.{Row}
use Rattle.aqe_physical.specs.declared.target.StageKind.{StageKind}
use Rattle.aqe_physical.specs.declared.target.StageKind.TheVariants as kind
use Rattle.aqe_physical.specs.declared.plan.Plan.{Plan}
use Rattle.aqe_physical.specs.Nodes.{nodes}
use Rattle.aqe_scheduler.specs.History.{Birth, Step}
use Rattle.aqe_scheduler.specs.Looks.{births, counted, whole, task_count}
use Rattle.aqe_stages.specs.Stages.{Stage, Stages}
use Rattle.aqe_stages.specs.Parts.{parts, given_by}
use Rattle.aqe_stages.specs.Reads.{ReadsBelow, SampleBelow}
use Rattle.aqe_endings.specs.Peace.{IsPeaceful, first_whole}
use Rattle.aqe_journal.specs.Asked.{Asked}
use Rattle.aqe_journal.specs.Needed.{is_result, birth_over}
use Rattle.aqe_journal.specs.States.{State, history}
use Rattle.aqe_journal.specs.Steady.{Steady}
use Rattle.aqe_calm.specs.Forms.{IsBuiltNode, IsCarriedOut}

-- the births of stages that are made one after the other
abbrev pub births_over : Stages → Stages → List Birth
births_over before [] = []
births_over before (stage ∷ later) = birth_over before stage ∷ births_over (before ++ stage ∷ []) later

-- what a history says of such a run of so many stages
pub record CalmHistory (stages : Stages) (h : List Step) : Type 0 where
  pub peaceful : All IsPeaceful h
  pub whole : (s : ℕ) → whole h s ≡ is_some (first_whole h s)
  pub unborn : (s t : ℕ) → length stages ≤ s → counted h s t ≡ false
  pub within : (s t : ℕ) → task_count (births h) s ≤ t → counted h s t ≡ false
  pub births : births h ≡ births_over [] stages

-- what the parts of a plan are over stages
abbrev pub parts_over : Asked → Stages → Plan → List (List Row)
parts_over asked stages plan = parts asked.tables (given_by asked.tables stages) plan

-- the sample that a kind of stage names has a number below
abbrev pub KindBelow : ℕ → StageKind → Type 0
KindBelow n (kind.Shuffle target) = SampleBelow n target
KindBelow n other = Unit {0}

-- What holds of the stage with a number, if there is one: it reads stages before it, of which one has the samples that it names; and a
-- result gives the parts of the first plan.
abbrev pub IsAnswerAt : Asked → Plan → Stages → ℕ → Option Stage → Type 0
IsAnswerAt asked first stages s None = Unit {0}
IsAnswerAt asked first stages s (Some stage) =
    ReadsBelow s stage.body × KindBelow s stage.kind × (is_result stage.kind ≡ true → parts_over asked stages stage.body ≡ parts_over asked stages first)

-- What holds of a state of such a run: the query has its first version alone; the current plan, which reads stages that are there and has
-- the forms that are carried out, gives the parts of the first one, which reads no stage.
pub record Calm (asked : Asked) (first : Plan) (now : State) : Type 0 where
  pub steady : Steady asked now
  pub versions : now.versions ≡ record { position = 0; logical = asked.query; plan = first } ∷ []
  pub unread : ReadsBelow 0 first
  pub serves : parts_over asked now.stages now.plan ≡ parts_over asked now.stages first
  pub answers : (s : ℕ) → IsAnswerAt asked first now.stages s (slice_get now.stages s)
  pub built : All IsBuiltNode (nodes now.plan)
  pub carried : All IsCarriedOut now.stages
  pub events : CalmHistory now.stages (history now)
