-- The course of a run over the files of its store: what each statement does, in order, and where the run is refused. Want of
-- memory and a store that fails are not in it.
use Rattle.std.specs.Prelude.{◌≡◌, ◌⊎◌, ◌+◌, ℕ, List, [], ◌∷◌, ◌++◌, None, Some, Err}
use Rattle.aqe_base.specs.declared.event.Event.{Event}
use Rattle.aqe_base.specs.declared.status.Status.{Status}
use Rattle.aqe_base.specs.declared.status.Status.TheVariants as status
use Rattle.aqe_base.specs.declared.status.AnalysisKind.TheVariants as analysis
use Rattle.aqe_base.specs.declared.status.LimitKind.TheVariants as limit
use Rattle.aqe_store.specs.Files.{Entries}
use Rattle.aqe_settings.specs.declared.entry.Value.{Value}
use Rattle.aqe_settings.specs.Values.{default_values}
use Rattle.aqe_logical.specs.declared.plan.Logical.{Logical}
use Rattle.aqe_trees.specs.declared.query.QueryTree.{QueryTree}
use Rattle.aqe_trees.specs.declared.statement.Stmt.{Stmt}
use Rattle.aqe_trees.specs.declared.statement.Stmt.TheVariants as statement
use Rattle.aqe_trees.specs.declared.statement.TableForm.{TableForm}
use Rattle.aqe_tables.specs.declared.catalog.CatalogTable.{CatalogTable}
use Rattle.aqe_tables.specs.declared.catalog.CreateFault.{CreateFault}
use Rattle.aqe_tables.specs.declared.catalog.CreateFault.TheVariants as create
use Rattle.aqe_tables.specs.declared.fault.LoadFault.{LoadFault}
use Rattle.aqe_tables.specs.declared.fault.LoadFault.TheVariants as load
use Rattle.aqe_tables.specs.Catalog.{create_fault, catalog_table}
use Rattle.aqe_tables.specs.Loaded.{Slots}
use Rattle.aqe_rules.specs.declared.fault.AnalysisFault.{AnalysisFault}
use Rattle.aqe_rules.specs.declared.fault.AnalysisFault.TheVariants as fault
use Rattle.aqe_rules.specs.Outcomes.{Check, refused, too_many_operators, too_many_columns}
use Rattle.aqe_rules.specs.Analysis.{Analysed, walk}
use Rattle.aqe_sources.specs.Catalogs.{seen}
use Rattle.aqe_logical.specs.Nodes.{scans}
use Rattle.aqe_course.specs.Loading.{AreLoaded, IsStopped}

-- What a run has made by its statements so far: the tables that were created, those of them that are loaded, the settings in
-- force, which are the values of the table of settings in its order, and how many queries were answered.
pub record State : Type 0 where
  pub catalog : List CatalogTable
  pub tables : Slots
  pub settings : List Value
  pub answered : ℕ

abbrev pub state : List CatalogTable → Slots → List Value → ℕ → State
state catalog tables settings answered = record { catalog = catalog; tables = tables; settings = settings; answered = answered }

-- a run begins with no table, and with the default of each setting
abbrev pub nothing : State
nothing = state [] [] default_values 0

-- A query that was carried out: its number, which counts the queries of the script from 0, its plan, the tables that are
-- loaded by then, the settings in force, and what happens to its tasks, which is nothing until a run takes a file of events.
pub record Query : Type 0 where
  pub number : ℕ
  pub plan : Logical
  pub tables : Slots
  pub settings : List Value
  pub events : List Event

-- a query to whose tasks nothing happens
abbrev pub query : ℕ → Logical → Slots → List Value → Query
query number plan tables settings = record { number = number; plan = plan; tables = tables; settings = settings; events = [] }

-- the status of each refusal
abbrev pub of_create : CreateFault → Status
of_create (create.RepeatedColumn name) = status.Analysis analysis.RepeatedColumn
of_create create.TooManyColumns = status.Limit limit.Columns
of_create (create.BadOption key) = status.Analysis analysis.BadOption
of_create create.TableExists = status.Analysis analysis.TableExists
of_create create.Memory = status.Memory

abbrev pub of_check : Check → Status
of_check (refused kind name) = status.Analysis kind
of_check too_many_operators = status.Limit limit.Operators
of_check too_many_columns = status.Limit limit.Columns

abbrev pub of_fault : AnalysisFault → Status
of_fault (fault.Refused kind name) = status.Analysis kind
of_fault fault.TooManyOperators = status.Limit limit.Operators
of_fault fault.TooManyColumns = status.Limit limit.Columns
of_fault fault.Memory = status.Memory

abbrev pub of_load : LoadFault → Status
of_load load.ReadFault = status.ReadFault
of_load load.Missing = status.Missing
of_load load.TooManyFiles = status.Limit limit.Files
of_load (load.TooLong name) = status.Limit limit.FileBytes
of_load load.TooManyBytes = status.Limit limit.AllBytes
of_load (load.NotBuilt name) = status.NotBuilt
of_load load.Memory = status.Memory

-- CREATE TABLE enters the catalog, and reads nothing
abbrev pub IsCreated : State → TableForm → State → List Query → Type 0
IsCreated now form next answered =
    (create_fault now.catalog form ≡ None) × (next ≡ state (now.catalog ++ catalog_table form ∷ []) now.tables now.settings now.answered)
    × (answered ≡ [])

-- a query is analysed, and then the tables that its plan scans are loaded, from left to right; it changes no setting
pub record IsAnswered (files : Entries) (now : State) (tree : QueryTree) (next : State) (answered : List Query) : Type 0 where
  pub plan : Logical
  pub analysed : Analysed tree (seen now.catalog) plan
  pub loaded : AreLoaded files now.catalog now.tables (scans plan) next.tables
  pub kept : next.catalog ≡ now.catalog
  pub in_force : next.settings ≡ now.settings
  pub counted : next.answered ≡ now.answered + 1
  pub is : answered ≡ query now.answered plan next.tables now.settings ∷ []

-- a statement is carried out
abbrev pub IsCarriedOut : Entries → State → Stmt → State → List Query → Type 0
IsCarriedOut files now (statement.CreateTable form) next answered = IsCreated now form next answered
IsCarriedOut files now (statement.Set form) next answered = ⊥
IsCarriedOut files now (statement.Query tree) next answered = IsAnswered files now tree next answered

-- CREATE TABLE is refused for its first check that fails
abbrev pub IsNotCreated : State → TableForm → Status → Type 0
IsNotCreated now form end = (why : CreateFault) × (create_fault now.catalog form ≡ Some why) × (end ≡ of_create why)

-- a query is refused for its first check that fails
abbrev pub IsNotAnalysed : State → QueryTree → Status → Type 0
IsNotAnalysed now tree end = (check : Check) × (walk tree (seen now.catalog) ≡ Err check) × (end ≡ of_check check)

-- or for a table that is not loaded
pub record IsNotLoaded (files : Entries) (now : State) (tree : QueryTree) (end : Status) : Type 0 where
  pub plan : Logical
  pub analysed : Analysed tree (seen now.catalog) plan
  pub why : LoadFault
  pub stopped : IsStopped files now.catalog now.tables (scans plan) why
  pub is : end ≡ of_load why

-- a statement is refused
abbrev pub IsRefusedStatement : Entries → State → Stmt → Status → Type 0
IsRefusedStatement files now (statement.CreateTable form) end = IsNotCreated now form end
IsRefusedStatement files now (statement.Set form) end = ⊥
IsRefusedStatement files now (statement.Query tree) end = IsNotAnalysed now tree end ⊎ IsNotLoaded files now tree end

-- Statements are carried out one by one, up to some that are left.
pub data Runs (files : Entries) : State → List Stmt → List Query → State → List Stmt → Type 0 where
  none : (now : State) (left : List Stmt) → Runs files now left [] now left
  more : (now next end : State) (one : Stmt) (rest left : List Stmt) (answered later : List Query)
      → IsCarriedOut files now one next answered → Runs files next rest later end left
      → Runs files now (one ∷ rest) (answered ++ later) end left
