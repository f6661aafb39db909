-- When a task can carry out the body of a stage.
use Rattle.std.specs.Prelude.{ℕ, zero, suc, ◌≡◌, ◌≤◌, ◌<◌, ◌+◌, IsTrue, Option, Some, None, List, [], ◌∷◌, length, slice_index_or, All}
use Rattle.aqe_base.specs.declared.stage_id.StageId.{StageId}
use Rattle.aqe_base.specs.declared.join_kind.JoinKind.{JoinKind}
use Rattle.aqe_base.specs.declared.join_kind.Side.TheVariants.{Left, Right}
use Rattle.aqe_base.specs.Joins.{may_build}
use Rattle.aqe_values.specs.Bounds.{row_limit}
use Rattle.aqe_logical.specs.declared.plan.SortKey.{SortKey}
use Rattle.aqe_logical.specs.Answers.{Row, Tables}
use Rattle.aqe_logical.specs.Groups.{row_of}
use Rattle.aqe_logical.specs.WellFormed.{HaveWidth}
use Rattle.aqe_logical.specs.Order.{key_of}
use Rattle.aqe_rects.specs.Rectangles.{LiesWithin}
use Rattle.aqe_physical.specs.declared.target.Target.TheVariants.{Hash, Range}
use Rattle.aqe_physical.specs.declared.target.StageKind.{StageKind}
use Rattle.aqe_physical.specs.declared.target.StageKind.TheVariants as kind
use Rattle.aqe_physical.specs.declared.target.JoinWay.{JoinWay}
use Rattle.aqe_physical.specs.declared.target.JoinWay.TheVariants as way
use Rattle.aqe_physical.specs.declared.plan.Plan.{Plan, Scan, Read, ReadBroadcast}
use Rattle.aqe_physical.specs.Shapes.{moved, matched, grouped, finished, ordered}
use Rattle.aqe_physical.specs.Nodes.{nodes}
use Rattle.aqe_physical.specs.Counts.{part_count, target_count}
use Rattle.aqe_stages.specs.Stages.{Stage, Stages}
use Rattle.aqe_stages.specs.Parts.{all}

-- what holds of the stage of a number; where there is no such stage, nothing does
abbrev pub OfStage : Stages → ℕ → (Stage → Type 0) → Type 0
OfStage [] n P = ⊥
OfStage (stage ∷ stages) zero P = P stage
OfStage (stage ∷ stages) (suc n) P = OfStage stages n P

-- the reducers of a stage of a kind
abbrev pub reducers_of : StageKind → ℕ
reducers_of (kind.Shuffle target) = target_count target
reducers_of other = 1

-- no row, no key row of a row, and no pair of rows has more values than a row may have
abbrev pub Narrow : List Row → Type 0
Narrow rows = All (λ row. length row ≤ row_limit) rows

abbrev pub NarrowKeys : (Row → Row) → List Row → Type 0
NarrowKeys key rows = All (λ row. length (key row) ≤ row_limit) rows

abbrev pub NarrowPairs : List Row → List Row → Type 0
NarrowPairs as_ bs = All (λ a. All (λ b. length a + length b ≤ row_limit) bs) as_

-- What a way of joining asks of its two sides: as many parts where they are taken part by part, one part where a side is
-- taken whole, and a side that is built has to be one that the kind lets build.
abbrev pub SidesServe : JoinWay → JoinKind → ℕ → ℕ → Type 0
SidesServe way.SortMerge kind left right = left ≡ right
SidesServe (way.ShuffledHash side) kind left right = (left ≡ right) × IsTrue (may_build kind side)
SidesServe (way.Broadcast Left) kind left right = (left ≡ 1) × IsTrue (may_build kind Left)
SidesServe (way.Broadcast Right) kind left right = (right ≡ 1) × IsTrue (may_build kind Right)
SidesServe way.NestedLoop kind left right = (left ≡ 1) × (right ≡ 1)

-- What a node asks besides narrow rows. A scan names a table and its number of files; a read names a stage and lies within its
-- cells; a join has as many left keys as right keys, and its sides have rows of the width that it says; partial rows have a value
-- for each key and call. An exchange is no part of a body.
abbrev pub CanRun : Tables → Stages → Plan → Type 0
CanRun tables stages (Scan table files) = (table < length tables) × (files ≡ length (slice_index_or tables table []))
CanRun tables stages (Read stage maps reducers rects) =
    OfStage stages stage.0 (λ read. All (LiesWithin (part_count read.body) (reducers_of read.kind)) rects)
CanRun tables stages (ReadBroadcast stage) = OfStage stages stage.0 (λ read. read.kind ≡ kind.Broadcast)
CanRun tables stages (moved target child) = ⊥
CanRun tables stages (matched way kind keys v w left right) =
    SidesServe way kind (part_count left) (part_count right) × (length keys.left ≡ length keys.right) ×
    HaveWidth v (all tables stages left) × HaveWidth w (all tables stages right) ×
    NarrowKeys (row_of keys.left) (all tables stages left) × NarrowKeys (row_of keys.right) (all tables stages right) ×
    NarrowPairs (all tables stages left) (all tables stages right)
CanRun tables stages (grouped keys calls child) = NarrowKeys (row_of keys) (all tables stages child)
CanRun tables stages (finished keys calls child) = HaveWidth (keys + length calls) (all tables stages child)
CanRun tables stages (ordered keys child) = NarrowKeys (key_of keys) (all tables stages child)
CanRun tables stages node = Unit {0}

-- a body is runnable over tables and stages where each plan within it can run and has narrow rows
abbrev pub Runnable : Tables → Stages → Plan → Type 0
Runnable tables stages body = All (λ node. CanRun tables stages node × Narrow (all tables stages node)) (nodes body)

-- a range names the stage that holds its samples
abbrev pub NamesItsSample : Stages → Option StageId → Type 0
NamesItsSample stages None = ⊥
NamesItsSample stages (Some stage) = OfStage stages stage.0 (λ named. (keys : List SortKey) × (named.kind ≡ kind.Sample keys))

-- what a kind of stage asks of the rows of its body: a target has a part, and key rows are narrow
abbrev pub CanKeep : Stages → StageKind → List Row → Type 0
CanKeep stages (kind.Shuffle (Hash keys n)) rows = (0 < n) × NarrowKeys (row_of keys) rows
CanKeep stages (kind.Shuffle (Range keys n sample)) rows = (0 < n) × NamesItsSample stages sample × NarrowKeys (key_of keys) rows
CanKeep stages (kind.Sample keys) rows = NarrowKeys (key_of keys) rows
CanKeep stages other rows = Unit {0}
