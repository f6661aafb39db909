-- When the task of a stage is served, and what it gives.
use Rattle.std.specs.Prelude.{◌≡◌, ◌≤◌, ◌<◌, ◌∷◌, ◌++◌, ℕ, List, [], Some, slice_get, slice_index_or, All}
use Rattle.aqe_base.specs.declared.stage_id.StageId.{StageId}
use Rattle.aqe_base.specs.declared.ids.TaskId.{TaskId}
use Rattle.aqe_blocks.specs.Kept.{AllKept, output_at}
use Rattle.aqe_logical.specs.Answers.{Row, Tables}
use Rattle.aqe_physical.specs.declared.target.StageKind.{StageKind}
use Rattle.aqe_physical.specs.declared.plan.Plan.{Plan}
use Rattle.aqe_physical.specs.Counts.{part_count}
use Rattle.aqe_stages.specs.Stages.{Stages}
use Rattle.aqe_stages.specs.Places.{cells_of}
use Rattle.aqe_stages.specs.Parts.{parts, given_by, out, all, cells}
use Rattle.aqe_stages.specs.Reads.{Need, some_maps, all_maps, needs, task_needs}
use Rattle.aqe_stages.specs.Runnable.{Runnable, CanKeep}

-- the output of a map is kept, and its cells are those that the stage holds of it
abbrev pub IsKept : Tables → Stages → AllKept → ℕ → ℕ → Type 0
IsKept tables stages kept stage map = output_at kept stage map ≡ Some (slice_index_or (cells tables stages stage) map [])

-- What is needed is kept: each of some maps; or of all maps each that the stage has, and no other.
abbrev pub IsMet : Tables → Stages → AllKept → Need → Type 0
IsMet tables stages kept (some_maps stage m0 m1) = (m : ℕ) → m0 ≤ m → m < m1 → IsKept tables stages kept stage m
IsMet tables stages kept (all_maps stage) = (m : ℕ) → output_at kept stage m ≡ slice_get (cells tables stages stage) m

-- part k of a plan is served over stages: the plan is runnable and has the part, and what the part needs is kept
pub record IsServed (tables : Tables) (stages : Stages) (kept : AllKept) (plan : Plan) (k : ℕ) : Type 0 where
  pub runs : Runnable tables stages plan
  pub within : k < part_count plan
  pub reads : All (IsMet tables stages kept) (needs plan k)

-- task k of a stage of this kind and body is served over stages
pub record IsServedTask (tables : Tables) (stages : Stages) (kept : AllKept) (kind : StageKind) (body : Plan) (k : ℕ) : Type 0 where
  pub runs : Runnable tables stages body
  pub keeps : CanKeep stages kind (all tables stages body)
  pub within : k < part_count body
  pub reads : All (IsMet tables stages kept) (task_needs kind body k)

-- rows are part k of a plan over all stages that serve it
abbrev pub GivesPart : Tables → AllKept → Plan → ℕ → List Row → Type 0
GivesPart tables kept plan k rows = (stages : Stages) → IsServed tables stages kept plan k → rows ≡ out tables stages plan k

-- the cells that a stage of this kind and body has of its map k
abbrev pub task_cells : Tables → Stages → StageKind → Plan → ℕ → List (List Row)
task_cells tables stages kind body k = cells_of (given_by tables stages) kind (parts tables (given_by tables stages) body) (out tables stages body k)

-- cells are those of task k over all stages that serve it
abbrev pub GivesTask : Tables → AllKept → StageKind → Plan → ℕ → List (List Row) → Type 0
GivesTask tables kept kind body k made = (stages : Stages) → IsServedTask tables stages kept kind body k → made ≡ task_cells tables stages kind body k

-- to the tasks that were run, each with its stage, one is added at the end: task k of the stage
abbrev pub HasRun : List (StageId × TaskId) → List (StageId × TaskId) → StageId → ℕ → Type 0
HasRun old new stage k = new ≡ old ++ (stage, record { 0 = k }) ∷ []
