-- What each step of a run makes, and how a step may be refused.
use Rattle.std.specs.Prelude.{◌≡◌, ◌≤◌, ◌+◌, ◌⊎◌, ℕ, length, Bool, true, false, List, [], ◌∷◌, None, Option, All, Result, Err}
use Rattle.aqe_base.specs.declared.status.Status.{Status}
use Rattle.aqe_base.specs.declared.status.Status.TheVariants as status
use Rattle.aqe_base.specs.declared.status.LimitKind.TheVariants as limit
use Rattle.aqe_values.specs.Bounds.{text_limit}
use Rattle.aqe_store.specs.Causes.{Rose}
use Rattle.aqe_store.specs.Files.{Entries, IsHeld}
use Rattle.aqe_store.specs.Reading.{IsLonger}
use Rattle.aqe_store.specs.Sink.{AppendsFront}
use Rattle.aqe_store.specs.Told.{Open, WhereTold}
use Rattle.aqe_logical.specs.declared.plan.Logical.{Logical}
use Rattle.aqe_logical.specs.Nodes.{scans}
use Rattle.aqe_trees.specs.declared.query.QueryTree.{QueryTree}
use Rattle.aqe_trees.specs.declared.statement.Stmt.{Stmt}
use Rattle.aqe_settings.specs.Values.{values_of}
use Rattle.aqe_tables.specs.declared.catalog.CatalogTable.{CatalogTable}
use Rattle.aqe_tables.specs.declared.fault.LoadFault.{LoadFault}
use Rattle.aqe_tables.specs.Steps.{IsStep}
use Rattle.aqe_tables.specs.Loaded.{Slots, IsLoaded, table_at}
use Rattle.aqe_course.specs.Command.{command}
use Rattle.aqe_course.specs.Course.{State, state, nothing, Query, query, IsAnswered, IsCarriedOut, IsRefusedStatement, Runs, of_load}
use Rattle.aqe_course.specs.Loading.{AreLoaded, IsAdded, IsRefusedTable, IsStopped}
use Rattle.aqe_course.specs.Ending.{Left, StopsAt, StopsAtScript, Writes}
use Rattle.aqe_answer.specs.Answer.{IsPrinted, IsRecorded}
use Rattle.aqe_journal.specs.declared.record.QueryRecord.{QueryRecord}
use Rattle.aqe_course.specs.Opening.{IsNotOpened}
use Rattle.aqe_course.specs.Statuses.{Side, course, store, memory, sink, side_of}
use Rattle.aqe_run.specs.declared.made.Made.{Made}

-- the state that the program's tables and settings stand for
abbrev pub state_of : Made → State
state_of made = state made.catalog made.tables (values_of made.settings) made.answered

-- how many statements were carried out
abbrev pub done_of : Made → ℕ
done_of made = length made.catalog + made.answered

abbrev pub is_before_text : Side → Bool
is_before_text course = true
is_before_text store = true
is_before_text memory = true
is_before_text other = false

abbrev pub is_of_statement : Side → Bool
is_of_statement sink = true
is_of_statement other = is_before_text other

-- the ends of a step before a text is written, and those of a statement, whose text is
abbrev pub is_step_end : Status → Bool
is_step_end end = is_before_text (side_of end)

abbrev pub is_statement_end : Status → Bool
is_statement_end end = is_of_statement (side_of end)

-- a store that fails and want of memory may come before any refusal, and so may a sink that fails
abbrev pub IsExcuse : Status → Type 0
IsExcuse end = (end ≡ status.Memory) ⊎ (end ≡ status.ReadFault)

abbrev pub IsWriteExcuse : Status → Type 0
IsWriteExcuse end = IsExcuse end ⊎ (end ≡ status.WriteFault)

-- The count of a sink's faults does not fall, and rises with its own answer and no other.
pub record IsSinkStep {A : Type 0} (fault : Status) (faults faults' : ℕ) (result : Result A Status) : Type 0 where
  pub faults_stay : faults ≤ faults'
  pub write_fault : result ≡ Err fault → Rose faults faults'
  pub steady : (result ≡ Err fault → ⊥) → faults' ≡ faults

-- why a script's file is not read
abbrev pub IsNotRead : Entries → List ℕ → Status → Type 0
IsNotRead files path end =
    ((IsHeld files path → ⊥) × (end ≡ status.Missing)) ⊎ (IsLonger files path text_limit × (end ≡ status.Limit limit.FileBytes))

-- not all tables of these numbers are loaded
abbrev pub AreMissing : Slots → List ℕ → Type 0
AreMissing slots numbers = All (λ n. IsLoaded slots n) numbers → ⊥

-- the next of some tables is loaded: it was before, or it is added
abbrev pub IsNext : Entries → List CatalogTable → Slots → ℕ → Slots → Type 0
IsNext files catalog before n after =
    (IsLoaded before n × (after ≡ before)) ⊎ ((table_at before n ≡ None) × IsAdded files catalog before n after)

-- the next of some tables is refused
pub record IsNotNext (files : Entries) (catalog : List CatalogTable) (before : Slots) (n : ℕ) (end : Status) : Type 0 where
  pub why : LoadFault
  pub free : table_at before n ≡ None
  pub refused : IsRefusedTable files catalog before n why
  pub is : end ≡ of_load why

-- some tables are refused
abbrev pub AreRefused : Entries → List CatalogTable → Slots → List ℕ → Status → Type 0
AreRefused files catalog before numbers end = (why : LoadFault) × IsStopped files catalog before numbers why × (end ≡ of_load why)

-- a query is carried out, its record is in the journal, and it has this text
pub record IsQueried (files : Entries) (now : State) (tree : QueryTree) (next : State) (old new : List QueryRecord) (text : List ℕ) : Type 0 where
  pub query : Query
  pub is : IsAnswered files now tree next (query ∷ [])
  pub printed : IsPrinted query old new text

-- memory is wanted behind the record of a query
pub record IsRecordedOnly (files : Entries) (now : State) (tree : QueryTree) (end : Status) (old new : List QueryRecord) : Type 0 where
  pub memory : end ≡ status.Memory
  pub next : State
  pub query : Query
  pub is : IsAnswered files now tree next (query ∷ [])
  pub recorded : IsRecorded query old new

-- a query that is not answered leaves the journal as it was, or has its record there where memory is wanted
abbrev pub IsUnanswered : Entries → State → QueryTree → Status → List QueryRecord → List QueryRecord → Type 0
IsUnanswered files now tree end old new = (new ≡ old) ⊎ IsRecordedOnly files now tree end old new

-- a statement is carried out, and its records and texts are there
pub record IsWritten (files : Entries) (now : State) (one : Stmt) (next : State) (old new : Left) : Type 0 where
  pub answered : List Query
  pub is : IsCarriedOut files now one next answered
  pub writes : Writes old new answered

-- a query was carried out, and a front of its text was written
pub record IsHalfWritten (files : Entries) (now : State) (one : Stmt) (old new : Left) : Type 0 where
  pub next : State
  pub query : Query
  pub is : IsCarriedOut files now one next (query ∷ [])
  pub text : List ℕ
  pub printed : IsPrinted query old.journal new.journal text
  pub front : AppendsFront old.taken new.taken text

-- a script was carried out so far, and its records and texts are there
pub record IsCarriedTo (files : Entries) (script : List Stmt) (now : State) (rest : List Stmt) (old new : Left) : Type 0 where
  pub queries : List Query
  pub runs : Runs files nothing script queries now rest
  pub writes : Writes old new queries

-- The words of clauses: the same of whatever store and sink, where the store tells its files.

-- What a step leaves of the store: told files stay, no count falls, and the faults rise with ReadFault, the misses with
-- Missing, and with no other answer.
abbrev pub IsRunStep : {S A : Type 0} → (S → Option Entries) → (S → ℕ) → (S → ℕ) → S → S → Result A Status → Type 0
IsRunStep files faults misses old new result =
    IsStep status.ReadFault status.Missing (files old) (files new) (faults old) (faults new) (misses old) (misses new) result

-- the same of a step that ends with a status
abbrev pub IsRunEnd : {S : Type 0} → (S → Option Entries) → (S → ℕ) → (S → ℕ) → S → S → Status → Type 0
IsRunEnd files faults misses old new end = IsRunStep {A = Unit {0}} files faults misses old new (Err end)

abbrev pub LoadsAll : Option Entries → List CatalogTable → Slots → List ℕ → Slots → Type 0
LoadsAll told catalog before numbers after = WhereTold told (λ files. AreLoaded files catalog before numbers after)

-- A query that was not answered, once its tables may have been loaded: the journal stays, or memory was wanted behind its record.
abbrev pub IsBehind : Option Entries → State → Logical → Slots → List QueryRecord → List QueryRecord → Status → Type 0
IsBehind told now plan after old new end =
    (new ≡ old) ⊎ ((end ≡ status.Memory) × LoadsAll told now.catalog now.tables (scans plan) after × IsRecorded (query now.answered plan after now.settings) old new)

-- tables are refused, if nothing else is in the way
abbrev pub RefusesTables : Option Entries → List CatalogTable → Slots → List ℕ → Status → Type 0
RefusesTables told catalog before numbers end = WhereTold told (λ files. AreRefused files catalog before numbers end ⊎ IsExcuse end)

-- a statement is refused, if nothing else is in the way; a failure to write is, of a statement that writes
abbrev pub Refuses : Option Entries → State → Stmt → Status → Type 0
Refuses told now one end = WhereTold told (λ files. IsRefusedStatement files now one end ⊎ IsExcuse end)

abbrev pub RefusesToWrite : Option Entries → State → Stmt → Status → Type 0
RefusesToWrite told now one end = WhereTold told (λ files. IsRefusedStatement files now one end ⊎ IsWriteExcuse end)

abbrev pub WritesAll : Option Entries → State → Stmt → State → Left → Left → Type 0
WritesAll told now one next old new = WhereTold told (λ files. IsWritten files now one next old new)

-- where a statement stops the run, what it leaves
abbrev pub StopsThere : Option Entries → State → Stmt → Status → Left → Left → Type 0
StopsThere told now one end old new = WhereTold told (λ files. StopsAt files now one end old new)

abbrev pub WritesHalf : Option Entries → State → Stmt → Left → Left → Type 0
WritesHalf told now one old new = WhereTold told (λ files. IsHalfWritten files now one old new)

-- all statements of a script are carried out
abbrev pub CarriesOutAll : Option Entries → List Stmt → Left → Left → Type 0
CarriesOutAll told script old new = WhereTold told (λ files. (end : State) × IsCarriedTo files script end [] old new)

-- there is no script, for its cause; or its file is not had
abbrev pub OpensNone : Option Entries → Option Open → List ℕ → Status → Type 0
OpensNone told opened path end =
    WhereTold told (λ files. IsNotOpened files (command path) end ⊎ StopsAtScript opened (command path) end)
