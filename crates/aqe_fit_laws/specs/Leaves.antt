-- What is asked of the leaves of a logical plan, of the reads of the plan that is planned for it, and which plans are planned so far.
use Rattle.std.specs.Prelude.{ℕ, ◌-◌, ◌≡◌, ◌≤◌, ◌<◌, List, [], length, slice_index_or, All}
use Rattle.aqe_rects.specs.Rectangles.{plain_rects}
use Rattle.aqe_logical.specs.declared.plan.Placement.{Placement}
use Rattle.aqe_logical.specs.declared.plan.Placement.TheVariants as place
use Rattle.aqe_logical.specs.declared.plan.Logical.{Logical, Scan, Empty, Held, HeldPartial}
use Rattle.aqe_logical.specs.Shapes.{sampled}
use Rattle.aqe_logical.specs.Nodes.{nodes}
use Rattle.aqe_logical.specs.Answers.{Tables, Stages as HeldRows}
use Rattle.aqe_physical.specs.declared.target.Target.{Target}
use Rattle.aqe_physical.specs.declared.target.Target.TheVariants as target
use Rattle.aqe_physical.specs.declared.target.StageKind.TheVariants as kind
use Rattle.aqe_physical.specs.declared.plan.Plan as plan
use Rattle.aqe_physical.specs.declared.plan.Plan.{Plan}
use Rattle.aqe_physical.specs.Nodes as physical
use Rattle.aqe_physical.specs.Counts.{part_count}
use Rattle.aqe_stages.specs.Stages.{Stage, Stages, output_of}
use Rattle.aqe_stages.specs.Cells.{all_rows}
use Rattle.aqe_stages.specs.Parts.{given_by}
use Rattle.aqe_stages.specs.Runnable.{OfStage, reducers_of}
use Rattle.aqe_base.specs.declared.stage_id.StageId.{StageId}
use Rattle.aqe_physical.specs.declared.sizes.StageSize.{StageSize}
use Rattle.aqe_fitting.specs.Known.{entry_of, maps_in, reducers_in}
use Rattle.aqe_fitting.specs.Placing.{place_of, groups_target}

-- the rows that stages hold, as a logical plan reads them
abbrev pub held_rows : Tables → Stages → HeldRows
held_rows tables stages stage = all_rows (output_of (given_by tables stages) stage)

-- a target shuffles to at least one part, and by hash to n of them
abbrev pub HasParts : ℕ → Target → Type 0
HasParts n (target.Hash keys count) = count ≡ n
HasParts n (target.Range keys count sample) = 1 ≤ count
HasParts n target.Single = Unit {0}
HasParts n target.Broadcast = ⊥

-- the place at which a leaf is held is the one that the target of its stage gives, or nothing is said of it
abbrev pub GivesPlace : ℕ → Target → Placement → Type 0
GivesPlace n to place.Any = HasParts n to
GivesPlace n to w = HasParts n to × (place_of to ≡ w)

abbrev pub IsHeldAs : ℕ → Placement → Stage → Type 0
IsHeldAs n w stage = (to : Target) × (stage.kind ≡ kind.Shuffle to) × GivesPlace n to w

-- a scan reads a table that is there, and its number of files is told right
abbrev pub ScanIsRight : Tables → (ℕ → ℕ) → Logical → Type 0
ScanIsRight tables files (Scan table schema) = (table < length tables) × (files table ≡ length (slice_index_or tables table []))
ScanIsRight tables files node = Unit {0}

abbrev pub ScansRight : Tables → (ℕ → ℕ) → Logical → Type 0
ScansRight tables files x = All (ScanIsRight tables files) (nodes x)

-- Of each leaf: scans are right. A held leaf has a stage, at its place. Partial rows were moved as an exchange of groups moves them.
abbrev pub LeafIsRight : Tables → Stages → ℕ → (ℕ → ℕ) → Logical → Type 0
LeafIsRight tables stages n files (Scan table schema) = (table < length tables) × (files table ≡ length (slice_index_or tables table []))
LeafIsRight tables stages n files (Held stage place.Broadcast schema) = OfStage stages stage.0 (λ held. held.kind ≡ kind.Broadcast)
LeafIsRight tables stages n files (Held stage w schema) = OfStage stages stage.0 (IsHeldAs n w)
LeafIsRight tables stages n files (HeldPartial stage calls schema) =
    OfStage stages stage.0 (λ held. held.kind ≡ kind.Shuffle (groups_target n (length schema - length calls)))
LeafIsRight tables stages n files node = Unit {0}

abbrev pub LeavesRight : Tables → Stages → ℕ → (ℕ → ℕ) → Logical → Type 0
LeavesRight tables stages n files x = All (LeafIsRight tables stages n files) (nodes x)

-- the sizes of a stage that a leaf is held by say how many maps and reducers it has
abbrev pub SizeIsRight : Stages → List StageSize → StageId → Type 0
SizeIsRight stages sizes stage =
    OfStage stages stage.0 (λ made. (maps_in (entry_of sizes stage) ≡ part_count made.body) × (reducers_in (entry_of sizes stage) ≡ reducers_of made.kind))

abbrev pub LeafSizeIsRight : Stages → List StageSize → Logical → Type 0
LeafSizeIsRight stages sizes (Held stage w schema) = SizeIsRight stages sizes stage
LeafSizeIsRight stages sizes (HeldPartial stage calls schema) = SizeIsRight stages sizes stage
LeafSizeIsRight stages sizes node = Unit {0}

abbrev pub SizesRight : Stages → List StageSize → Logical → Type 0
SizesRight stages sizes x = All (LeafSizeIsRight stages sizes) (nodes x)

-- a read has the number of maps and of reducers of its stage, and reads it plainly: a part for each reducer, with all maps
abbrev pub IsPlainRead : Stages → Plan → Type 0
IsPlainRead stages (plan.Read stage maps reducers rects) =
    OfStage stages stage.0 (λ read. (maps ≡ part_count read.body) × (reducers ≡ reducers_of read.kind)) × (rects ≡ plain_rects maps reducers)
IsPlainRead stages node = Unit {0}

abbrev pub ReadsPlain : Stages → Plan → Type 0
ReadsPlain stages p = All (IsPlainRead stages) (physical.nodes p)

-- The nodes that are planned so far. A node that is planned later takes its line away.
abbrev pub IsPlannedYet : Logical → Type 0
IsPlannedYet (Empty schema) = ⊥
IsPlannedYet (sampled stage child) = ⊥
IsPlannedYet node = Unit {0}

abbrev pub PlannedYet : Logical → Type 0
PlannedYet x = All IsPlannedYet (nodes x)
