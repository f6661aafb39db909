-- What tests of tasks know of the tables, stages and bodies that they make.
use Rattle.std.specs.Prelude.{ℕ, ◌≡◌, ◌≤◌, ◌<◌, List, [], All, Some}
use Rattle.aqe_blocks.specs.Kept.{AllKept, HaveCells, kept_of, output_at}
use Rattle.aqe_tables.specs.Loaded.{Slots, IsLoaded}
use Rattle.aqe_estimates.specs.LoadedTables.{tables_of}
use Rattle.aqe_logical.specs.Answers.{Row, Tables, table_rows}
use Rattle.aqe_logical.specs.WellFormed.{HaveWidth}
use Rattle.aqe_physical.specs.declared.target.Target.TheVariants as target
use Rattle.aqe_physical.specs.declared.target.StageKind.{StageKind}
use Rattle.aqe_physical.specs.declared.target.StageKind.TheVariants as kind
use Rattle.aqe_physical.specs.declared.plan.Plan.{Plan}
use Rattle.aqe_physical.specs.Counts.{part_count}
use Rattle.aqe_stages.specs.Stages.{Stage, Stages}
use Rattle.aqe_stages.specs.Cells.{all_rows}
use Rattle.aqe_stages.specs.Parts.{all, cells}
use Rattle.aqe_stages.specs.Reads.{needs}
use Rattle.aqe_stages.specs.Runnable.{OfStage, Runnable, CanKeep, reducers_of}
use Rattle.aqe_task.specs.Built.{IsBuiltBody}
use Rattle.aqe_task.specs.Tasks.{IsKept, IsMet, task_cells}

-- table 0 is loaded, and its rows have two values
pub record HasTable (slots : Slots) : Type 0 where
  pub loaded : IsLoaded slots 0
  pub wide : HaveWidth 2 (table_rows (tables_of slots) 0)

-- no stage is there where no map is kept
abbrev pub IsBare : ℕ → Stages → Type 0
IsBare maps stages = maps ≡ 0 → stages ≡ []

-- a stage has so many maps and reducers
abbrev pub HasCells : ℕ → ℕ → Stage → Type 0
HasCells maps reducers stage = (maps ≡ part_count stage.body) × (reducers ≡ reducers_of stage.kind)

-- what is kept is what stage 0 holds, whose rows have so many values
pub record IsHeld (tables : Tables) (stages : Stages) (held : AllKept) (maps reducers width : ℕ) : Type 0 where
  pub bare : IsBare maps stages
  pub first : 0 < maps → OfStage stages 0 (HasCells maps reducers)
  pub each : (m : ℕ) → m < maps → IsKept tables stages held 0 m
  pub wide : HaveWidth width (all_rows (cells tables stages 0))
  pub few : width ≤ 256

-- a body is served over stages in each of its parts, which are so many, and its rows have so many values
pub record IsReady (tables : Tables) (stages : Stages) (held : AllKept) (maps : ℕ) (body : Plan) (parts width : ℕ) : Type 0 where
  pub bare : IsBare maps stages
  pub built : IsBuiltBody body
  pub runs : Runnable tables stages body
  pub reads : (k : ℕ) → All (IsMet tables stages held) (needs body k)
  pub count : parts ≡ part_count body
  pub wide : HaveWidth width (all tables stages body)
  pub few : width ≤ 256

-- the same over some stages
pub record Holds (tables : Tables) (held : AllKept) (maps reducers width : ℕ) : Type 0 where
  pub stages : Stages
  pub are : IsHeld tables stages held maps reducers width

pub record Ready (tables : Tables) (held : AllKept) (maps : ℕ) (body : Plan) (parts width : ℕ) : Type 0 where
  pub stages : Stages
  pub is : IsReady tables stages held maps body parts width

-- a body is ready over all tables, whatever is kept
pub record IsReadyAnywhere (body : Plan) (parts width : ℕ) : Type 0 where
  pub ready : (tables : Tables) (held : AllKept) (maps : ℕ) → Ready tables held maps body parts width

-- wherever one body is ready, another is
pub record Follows (before : Plan) (parts width : ℕ) (after : Plan) (more wide : ℕ) : Type 0 where
  pub follow : (tables : Tables) (held : AllKept) (maps : ℕ) → Ready tables held maps before parts width → Ready tables held maps after more wide

-- a kind of stage neither keeps samples nor names a stage of them
abbrev pub IsUnsampled : StageKind → Type 0
IsUnsampled (kind.Shuffle (target.Range keys n sample)) = ⊥
IsUnsampled (kind.Sample keys) = ⊥
IsUnsampled other = Unit {0}

-- a kind of stage keeps rows without samples, and can keep any
pub record IsEasy (keeper : StageKind) : Type 0 where
  pub unsampled : IsUnsampled keeper
  pub keeps : (stages : Stages) (rows : List Row) → CanKeep stages keeper rows

-- of the maps below a number of stage 0, of this kind and body, the cells are kept
pub record IsKeptBelow (tables : Tables) (kind : StageKind) (body : Plan) (held : AllKept) (n : ℕ) : Type 0 where
  pub each : (m : ℕ) → m < n → output_at held 0 m ≡ Some (task_cells tables [] kind body m)
  pub alike : HaveCells (reducers_of kind) (kept_of held 0)
