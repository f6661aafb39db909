-- What holds of the courses and the ends of all runs.
use Rattle.std.specs.Prelude.{◌≡◌, ◌⊎◌, ◌+◌, ⊤, ℕ, List, [], ◌∷◌, All, Option, IsTrue}
use Rattle.aqe_base.specs.declared.status.Status.{Status}
use Rattle.aqe_base.specs.declared.status.Status.TheVariants as status
use Rattle.aqe_store.specs.Files.{Entries}
use Rattle.aqe_store.specs.Told.{Open}
use Rattle.aqe_tables.specs.Loaded.{AreShaped, table_at}
use Rattle.aqe_settings.specs.Ranges.{InRange}
use Rattle.aqe_course.specs.Command.{Command}
use Rattle.aqe_trees.specs.declared.statement.Stmt.{Stmt}
use Rattle.aqe_course.specs.Course.{IsCarriedOut, Query, Runs, State, nothing}
use Rattle.aqe_course.specs.Ending.{Answers, Ends, IsAccepted, IsDone, IsRefused, Left, RefusesBehind}
use Rattle.aqe_course.specs.Statuses.{is_failure, is_refusal}

-- the same plan under the same number, over the same loaded tables, with the same settings in force and the same events
pub record AreAlike (this other : Query) : Type 0 where
  pub number : this.number ≡ other.number
  pub plan : this.plan ≡ other.plan
  pub tables : (n : ℕ) → table_at this.tables n ≡ table_at other.tables n
  pub settings : this.settings ≡ other.settings
  pub events : this.events ≡ other.events

-- the same queries in the same order
abbrev pub AreAllAlike : List Query → List Query → Type 0
AreAllAlike [] [] = ⊤
AreAllAlike [] (other ∷ others) = ⊥
AreAllAlike (this ∷ those) [] = ⊥
AreAllAlike (this ∷ those) (other ∷ others) = AreAlike this other × AreAllAlike those others

-- a run is refused with one status at most, behind the same queries
pub record OneRefusal (those others : List Query) (this other : Status) : Type 0 where
  pub end : this ≡ other
  pub queries : AreAllAlike those others

abbrev pub RunsHaveOneRefusal : Type 0
RunsHaveOneRefusal = (files : Entries) (said : Command) (those others : List Query) (this other : Status)
    → IsRefused files said those this → IsRefused files said others other → OneRefusal those others this other

-- a run that is carried out is not refused
abbrev pub DoneIsNotRefused : Type 0
DoneIsNotRefused = (files : Entries) (said : Command) (queries others : List Query) (end : Status)
    → IsDone files said queries → IsRefused files said others end → ⊥

-- a run that is carried out answers the same queries, however it is taken
abbrev pub RunsAnswerTheSame : Type 0
RunsAnswerTheSame = (files : Entries) (said : Command) (those others : List Query)
    → IsDone files said those → IsDone files said others → AreAllAlike those others

-- queries with their numbers, which go on from n
abbrev pub AreNumbered : ℕ → List Query → Type 0
AreNumbered n [] = ⊤
AreNumbered n (query ∷ queries) = (query.number ≡ n) × AreNumbered (n + 1) queries

-- the queries of a run are numbered from 0
abbrev pub RunsNumberTheirQueries : Type 0
RunsNumberTheirQueries = (files : Entries) (script left : List Stmt) (queries : List Query) (now : State)
    → Runs files nothing script queries now left → AreNumbered 0 queries

-- each loaded table was created, and has 1 to 1,000 files and in each row a value for each column
abbrev pub HasShapedTables : State → Type 0
HasShapedTables now = AreShaped now.catalog now.tables

-- what a run has loaded stays so
abbrev pub RunsKeepShapes : Type 0
RunsKeepShapes = (files : Entries) (script left : List Stmt) (queries : List Query) (now : State)
    → Runs files nothing script queries now left → HasShapedTables now

-- the settings of a query are those in force where its statement is carried out
abbrev pub QueriesHaveTheSettingsInForce : Type 0
QueriesHaveTheSettingsInForce = (files : Entries) (now next : State) (one : Stmt) (answered : List Query)
    → IsCarriedOut files now one next answered → All (λ query. query.settings ≡ now.settings) answered

-- the settings of a state, and those of each query, lie in their ranges
abbrev pub AreInRange : State → List Query → Type 0
AreInRange now queries = InRange now.settings × All (λ query. InRange query.settings) queries

-- the settings of a run lie in their ranges, and so do those of each of its queries
abbrev pub RunsKeepRanges : Type 0
RunsKeepRanges = (files : Entries) (script left : List Stmt) (queries : List Query) (now : State)
    → Runs files nothing script queries now left → AreInRange now queries

-- Each run is carried out or refused: none is neither. The definitions compute no test of whether tokens are a script, so that
-- this says of a run which is not refused that it cannot but be carried out.
abbrev pub EachRunEnds : Type 0
EachRunEnds = (files : Entries) (said : Command) → ((queries : List Query) → ¬ (IsDone files said queries)) → ¬ (IsAccepted files said)

-- the refusals of the course are those of `is_refusal`
abbrev pub RefusalsAreOfTheCourse : Type 0
RefusalsAreOfTheCourse = (files : Entries) (said : Command) (queries : List Query) (end : Status)
    → IsRefused files said queries end → IsTrue (is_refusal end)

-- What the end of a run tells. With status 0 all its queries are answered; with a refusal it is that of the course; where
-- the course has a refusal it comes, unless something failed; where it has none, the run is carried out, unless something
-- failed.
pub record EndTells (files : Entries) (said : Command) (old new : Left) (end : Status) : Type 0 where
  pub done : end ≡ status.Done → Answers files said old new
  pub refused : IsTrue (is_refusal end) → RefusesBehind files said old new end
  pub always : (queries : List Query) (cause : Status) → IsRefused files said queries cause → (end ≡ cause) ⊎ IsTrue (is_failure end)
  pub completes : IsAccepted files said → (end ≡ status.Done) ⊎ IsTrue (is_failure end)

abbrev pub EndsTell : Type 0
EndsTell = (files : Entries) (said : Command) (opened : Option Open) (old new : Left) (end : Status)
    → Ends files said opened old new end → EndTells files said old new end
