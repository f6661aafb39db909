-- How many parts a plan has, and how many of its exchanges move rows between parts.
use Rattle.std.specs.Prelude.{ℕ, ◌+◌, ◌<◌, ◌^◌, ◌≡◌, ◌≢◌, ◌⊎◌, max, length, All}
use Rattle.aqe_base.specs.declared.join_kind.Side.TheVariants.{Left, Right}
use Rattle.aqe_physical.specs.declared.target.Target.{Target}
use Rattle.aqe_physical.specs.declared.target.Target.TheVariants.{Hash, Range, Single, Broadcast}
use Rattle.aqe_physical.specs.declared.target.JoinWay.{JoinWay}
use Rattle.aqe_physical.specs.declared.target.JoinWay.TheVariants as way
use Rattle.aqe_physical.specs.declared.plan.Plan.{Plan, OneRow, Scan, Nothing, Read, ReadBroadcast}
use Rattle.aqe_physical.specs.Shapes.{kept, mapped, moved, matched, grouped, finished, ordered, cut_locally, cut_globally, both_of}
use Rattle.aqe_physical.specs.Nodes.{nodes}

-- an exchange has the parts that its target names
abbrev pub target_count : Target → ℕ
target_count (Hash keys n) = n
target_count (Range keys n sample) = n
target_count Single = 1
target_count Broadcast = 1

-- A join with one side built for every part has the parts of the other side; a nested loop has one
-- part; other joins have those of their left side, each of which meets the part of its number.
abbrev pub join_count : JoinWay → ℕ → ℕ → ℕ
join_count way.SortMerge left right = left
join_count (way.ShuffledHash side) left right = left
join_count (way.Broadcast Left) left right = right
join_count (way.Broadcast Right) left right = left
join_count way.NestedLoop left right = 1

-- A scan has a part for each file, and at least one; a read one for each rectangle.
abbrev pub part_count : Plan → ℕ
part_count OneRow = 1
part_count (Scan table files) = max 1 files
part_count (Nothing parts width) = parts
part_count (Read stage maps reducers rects) = length rects
part_count (ReadBroadcast stage) = 1
part_count (kept cond child) = part_count child
part_count (mapped items child) = part_count child
part_count (moved target child) = target_count target
part_count (matched way kind keys v w left right) = join_count way (part_count left) (part_count right)
part_count (grouped keys calls child) = part_count child
part_count (finished keys calls child) = part_count child
part_count (ordered keys child) = part_count child
part_count (cut_locally count child) = part_count child
part_count (cut_globally count skip child) = part_count child
part_count (both_of left right) = part_count left + part_count right

-- the parts of each plan within a plan can be numbered in 32 bits
abbrev pub PartsFit : Plan → Type 0
PartsFit plan = All (λ node. part_count node < 2 ^ 32) (nodes plan)

-- an exchange shuffles unless it is a broadcast
abbrev pub shuffles_at : Target → ℕ
shuffles_at Broadcast = 0
shuffles_at target = 1

-- the exchanges of a plan that shuffle; those within the stages that it reads are not of it
abbrev pub shuffles : Plan → ℕ
shuffles (kept cond child) = shuffles child
shuffles (mapped items child) = shuffles child
shuffles (moved target child) = shuffles_at target + shuffles child
shuffles (matched way kind keys v w left right) = shuffles left + shuffles right
shuffles (grouped keys calls child) = shuffles child
shuffles (finished keys calls child) = shuffles child
shuffles (ordered keys child) = shuffles child
shuffles (cut_locally count child) = shuffles child
shuffles (cut_globally count skip child) = shuffles child
shuffles (both_of left right) = shuffles left + shuffles right
shuffles leaf = 0

-- a plan is better than another where it shuffles less, or as often but is another plan
abbrev pub Better : Plan → Plan → Type 0
Better p q = (shuffles p < shuffles q) ⊎ ((shuffles p ≡ shuffles q) × (p ≢ q))
