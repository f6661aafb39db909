-- The laws of what plans give.
use Rattle.std.specs.Prelude.{ℕ, ◌≡◌, ◌<◌, [], ◌∷◌, ◌++◌, length, slice_index_or, All}
use Rattle.aqe_base.specs.declared.stage_id.StageId.{StageId}
use Rattle.aqe_logical.specs.Answers.{Tables}
use Rattle.aqe_physical.specs.declared.plan.Plan.{Plan}
use Rattle.aqe_physical.specs.Counts.{part_count}
use Rattle.aqe_physical.specs.declared.target.StageKind.{StageKind}
use Rattle.aqe_stages.specs.Stages.{Stage, Stages, Given}
use Rattle.aqe_stages.specs.Parts.{parts, given_by, cells}
use Rattle.aqe_stages.specs.Reads.{ReadsBelow, Agrees, needs, task_needs, KindNamesSample}
use Rattle.aqe_stages.specs.Places.{cells_of}
use Rattle.aqe_stages.specs.Making.{Made}

-- a plan has as many parts as are counted, whatever tables and stages hold
abbrev pub PartsAreAsManyAsCounted : Type 0
PartsAreAsManyAsCounted = (tables : Tables) (given : Given) (plan : Plan) → length (parts tables given plan) ≡ part_count plan

-- a stage holds the same whatever stages are made later
abbrev pub LaterStagesKeepCells : Type 0
LaterStagesKeepCells = (tables : Tables) (stages more : Stages) (stage : ℕ) → stage < length stages → cells tables (stages ++ more) stage ≡ cells tables stages stage

-- a plan that reads the stages that are there has the same parts whatever stages are made later
abbrev pub LaterStagesKeepParts : Type 0
LaterStagesKeepParts = (tables : Tables) (stages more : Stages) (plan : Plan) → ReadsBelow (length stages) plan →
    parts tables (given_by tables (stages ++ more)) plan ≡ parts tables (given_by tables stages) plan

-- the plan after a stage was made has the parts of the plan before it
abbrev pub MadeStagesKeepParts : Type 0
MadeStagesKeepParts = (tables : Tables) (stages : Stages) (number : StageId) (before after : Plan) (stage : Stage) →
    number.0 ≡ length stages → ReadsBelow (length stages) before → Made number before stage after →
    parts tables (given_by tables (stages ++ stage ∷ [])) after ≡ parts tables (given_by tables stages) before

-- and reads stages that are there
abbrev pub MadeStagesReadBelow : Type 0
MadeStagesReadBelow = (stages : Stages) (number : StageId) (before after : Plan) (stage : Stage) →
    number.0 ≡ length stages → ReadsBelow (length stages) before → Made number before stage after →
    ReadsBelow (length (stages ++ stage ∷ [])) after

-- a part is the same wherever what it needs is the same
abbrev pub PartsNeedTheirReads : Type 0
PartsNeedTheirReads = (tables : Tables) (given other : Given) (plan : Plan) (k : ℕ) → All (Agrees given other) (needs plan k) →
    slice_index_or (parts tables given plan) k [] ≡ slice_index_or (parts tables other plan) k []

-- what a task keeps is the same wherever what it needs is the same, if a range names its samples
abbrev pub TasksNeedTheirReads : Type 0
TasksNeedTheirReads = (tables : Tables) (given other : Given) (kind : StageKind) (body : Plan) (k : ℕ) →
    KindNamesSample kind → All (Agrees given other) (task_needs kind body k) →
    cells_of given kind (parts tables given body) (slice_index_or (parts tables given body) k []) ≡
    cells_of other kind (parts tables other body) (slice_index_or (parts tables other body) k [])
