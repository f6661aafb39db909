-- The laws of records.
use Rattle.std.specs.Prelude.{◌≡◌, ◌≤◌, All}
use Rattle.aqe_settings.specs.Values.{partitions}
use Rattle.aqe_logical.specs.Answers.{AnswerOf, Tables, no_stage}
use Rattle.aqe_logical.specs.WellFormed.{WellFormed, Closed, LeavesFit}
use Rattle.aqe_fitting.specs.Known.{files_of}
use Rattle.aqe_fit_laws.specs.Leaves.{PlannedYet, ScansRight}
use Rattle.aqe_stages.specs.Stages.{Stage, Stages}
use Rattle.aqe_stages.specs.Parts.{all}
use Rattle.aqe_stages.specs.Runnable.{Runnable, CanKeep}
use Rattle.aqe_stages.specs.Stands.{StandsFor}
use Rattle.aqe_journal.specs.declared.record.Finish.TheVariants.{Done}
use Rattle.aqe_journal.specs.declared.record.QueryRecord.{QueryRecord}
use Rattle.aqe_journal.specs.Asked.{Asked}
use Rattle.aqe_journal.specs.States.{State}
use Rattle.aqe_journal.specs.LegalRecord.{Legal, SoFar}

-- of the records with one number at most one is legal for a query as it is asked
abbrev pub OneRecordIsLegal : Type 0
OneRecordIsLegal = (asked : Asked) (note other : QueryRecord) → note.query ≡ other.query → Legal note asked → Legal other asked → note ≡ other

-- What has to hold of a query as it is asked: its plan is closed, well formed, and of the forms that are planned so far; its tables have
-- rows as wide as its scans, and the numbers of files that are estimated; and an exchange has a part.
pub record IsSound (asked : Asked) : Type 0 where
  pub parts : 1 ≤ partitions asked.settings
  pub formed : WellFormed asked.query
  pub closed : Closed asked.query
  pub planned : PlannedYet asked.query
  pub wide : LeavesFit asked.tables no_stage asked.query
  pub files : ScansRight asked.tables (files_of asked.estimates) asked.query

-- each version of a legal record stands for the query
abbrev pub LegalVersionsStand : Type 0
LegalVersionsStand = (asked : Asked) (note : QueryRecord) → IsSound asked → (legal : Legal note asked) →
    All (λ version. StandsFor asked.tables legal.last.stages version.plan asked.query) note.versions

-- the rows of a legal record that is done are an answer of the query
abbrev pub LegalRowsAreAnAnswer : Type 0
LegalRowsAreAnAnswer = (asked : Asked) (note : QueryRecord) → IsSound asked → Legal note asked → note.finish ≡ Done → AnswerOf asked.tables asked.query note.rows

-- a stage can be carried out: its body can be run, and its kind can keep what the body gives
abbrev pub CanBeCarriedOut : Tables → Stages → Stage → Type 0
CanBeCarriedOut tables stages stage = Runnable tables stages stage.body × CanKeep stages stage.kind (all tables stages stage.body)

-- each stage that a run has made can be carried out over the stages of the run
abbrev pub StagesOfRunsRun : Type 0
StagesOfRunsRun = (asked : Asked) (now : State) → IsSound asked → SoFar asked now → All (CanBeCarriedOut asked.tables now.stages) now.stages
