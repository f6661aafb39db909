-- What a part of a plan is computed from.
use Rattle.std.specs.Prelude.{ℕ, zero, suc, ◌≡◌, ◌<◌, ◌≤◌, ◌-◌, nat_lt, cond, Some, None, slice_index_or, List, [], ◌∷◌, ◌++◌, flat_map, All}
use Rattle.std.specs.List.{range_with_len}
use Rattle.aqe_base.specs.declared.stage_id.StageId.{StageId}
use Rattle.aqe_base.specs.declared.cells.Rect.{Rect}
use Rattle.aqe_base.specs.declared.join_kind.Side.TheVariants.{Left, Right}
use Rattle.aqe_physical.specs.declared.target.Target.{Target}
use Rattle.aqe_physical.specs.declared.target.Target.TheVariants.{Range}
use Rattle.aqe_physical.specs.declared.target.StageKind.{StageKind}
use Rattle.aqe_physical.specs.declared.target.StageKind.TheVariants as kind
use Rattle.aqe_physical.specs.declared.target.JoinWay.{JoinWay}
use Rattle.aqe_physical.specs.declared.target.JoinWay.TheVariants as way
use Rattle.aqe_physical.specs.declared.plan.Plan.{Plan, Read, ReadBroadcast}
use Rattle.aqe_physical.specs.Shapes.{kept, mapped, moved, matched, grouped, finished, ordered, cut_locally, cut_globally, both_of}
use Rattle.aqe_physical.specs.Nodes.{nodes}
use Rattle.aqe_physical.specs.Counts.{part_count}
use Rattle.aqe_stages.specs.Stages.{Given, output_of}

-- a task needs some maps of a stage, from one up to another, or all of them
pub data Need : Type 0 where
  some_maps : ℕ → ℕ → ℕ → Need
  all_maps : ℕ → Need

-- a range needs all samples of the stage that it names
abbrev pub sample_needs : Target → List Need
sample_needs (Range keys n (Some stage)) = all_maps stage.0 ∷ []
sample_needs target = []

-- the maps of a rectangle; a part without a rectangle needs none
abbrev pub rect_needs : StageId → List Rect → ℕ → List Need
rect_needs stage [] k = []
rect_needs stage (rect ∷ rects) zero = some_maps stage.0 rect.m0 rect.m1 ∷ []
rect_needs stage (rect ∷ rects) (suc k) = rect_needs stage rects k

-- what all parts of a plan need, from what each of them needs
abbrev pub all_needs : Plan → (ℕ → List Need) → List Need
all_needs plan needs = flat_map needs (range_with_len 0 (part_count plan))

-- what part k of a join needs of its two sides: of a side that is taken whole, what all its parts need
abbrev pub join_needs : JoinWay → List Need → List Need → List Need → List Need → List Need
join_needs way.SortMerge a all_a b all_b = a ++ b
join_needs (way.ShuffledHash side) a all_a b all_b = a ++ b
join_needs (way.Broadcast Left) a all_a b all_b = all_a ++ b
join_needs (way.Broadcast Right) a all_a b all_b = a ++ all_b
join_needs way.NestedLoop a all_a b all_b = all_a ++ all_b

-- The stages and maps that part k of a plan is computed from. Part k of a union is a part of its left side, or of its right
-- side if the left side has no part k; a part of an exchange is made of all parts of its child.
abbrev pub needs : Plan → ℕ → List Need
needs (Read stage maps reducers rects) k = rect_needs stage rects k
needs (ReadBroadcast stage) k = all_maps stage.0 ∷ []
needs (kept cond child) k = needs child k
needs (mapped items child) k = needs child k
needs (moved target child) k = sample_needs target ++ all_needs child (needs child)
needs (matched way kind keys v w left right) k =
    join_needs way (needs left k) (all_needs left (needs left)) (needs right k) (all_needs right (needs right))
needs (grouped keys calls child) k = needs child k
needs (finished keys calls child) k = needs child k
needs (ordered keys child) k = needs child k
needs (cut_locally count child) k = needs child k
needs (cut_globally count skip child) k = needs child k
needs (both_of left right) k = cond (nat_lt k (part_count left)) (needs left k) (needs right (k - part_count left))
needs leaf k = []

-- what task k of a stage needs: what part k of its body does, and the samples that its target names
abbrev pub task_needs : StageKind → Plan → ℕ → List Need
task_needs (kind.Shuffle target) body k = sample_needs target ++ needs body k
task_needs kind body k = needs body k

-- two lists of what stages hold agree on what is needed
abbrev pub Agrees : Given → Given → Need → Type 0
Agrees given other (some_maps stage from to) =
    (m : ℕ) → from ≤ m → m < to → slice_index_or (output_of given stage) m [] ≡ slice_index_or (output_of other stage) m []
Agrees given other (all_maps stage) = output_of given stage ≡ output_of other stage

-- a range that names no sample takes its bounds from all parts of the body
abbrev pub NamesSample : Target → Type 0
NamesSample (Range keys n None) = ⊥
NamesSample target = Unit {0}

abbrev pub KindNamesSample : StageKind → Type 0
KindNamesSample (kind.Shuffle target) = NamesSample target
KindNamesSample other = Unit {0}

-- a plan reads stages below a number alone
abbrev pub SampleBelow : ℕ → Target → Type 0
SampleBelow n (Range keys count (Some stage)) = stage.0 < n
SampleBelow n target = Unit {0}

abbrev pub ReadsBelowAt : ℕ → Plan → Type 0
ReadsBelowAt n (Read stage maps reducers rects) = stage.0 < n
ReadsBelowAt n (ReadBroadcast stage) = stage.0 < n
ReadsBelowAt n (moved target child) = SampleBelow n target
ReadsBelowAt n node = Unit {0}

abbrev pub ReadsBelow : ℕ → Plan → Type 0
ReadsBelow n plan = All (ReadsBelowAt n) (nodes plan)
