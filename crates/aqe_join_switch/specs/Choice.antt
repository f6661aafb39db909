-- The choice of a join's way: which side is small, which may be hashed, and the first case that holds.
use Rattle.std.specs.Prelude.{ℕ, ◌*◌, pos, Bool, true, false, ◌&&◌, not, cond, List, length, count_by, nat_lt, nat_le, int_le, Option, Some, None}
use Rattle.std.specs.List.{list_all}
use Rattle.aqe_base.specs.declared.join_kind.JoinKind.{JoinKind}
use Rattle.aqe_base.specs.declared.join_kind.Side.{Side}
use Rattle.aqe_base.specs.declared.join_kind.Side.TheVariants.{Left, Right}
use Rattle.aqe_base.specs.Joins.{may_build}
use Rattle.aqe_join_switch.specs.declared.sizes.SizeSource.{SizeSource}
use Rattle.aqe_join_switch.specs.declared.sizes.SizeSource.TheVariants.{Estimate, Shuffle}
use Rattle.aqe_join_switch.specs.declared.sizes.SizeSource.TheVariants as source
use Rattle.aqe_join_switch.specs.declared.sizes.SideSizes.{SideSizes}
use Rattle.aqe_join_switch.specs.declared.sizes.JoinRule.{JoinRule}
use Rattle.aqe_join_switch.specs.declared.sizes.JoinChoice.{JoinChoice}
use Rattle.aqe_join_switch.specs.declared.sizes.JoinChoice.TheVariants.{Broadcast, ShuffledHash, SortMerge}

-- what is known of a side: where its sizes come from, the size of the whole, and those of its partitions
pub record SideData : Type 0 where
  pub source : SizeSource
  pub total : ℕ
  pub parts : List ℕ

-- the sizes of the program as such data
abbrev pub seen : SideSizes → SideData
seen sizes = record { source = sizes.source; total = sizes.total; parts = sizes.parts.now }

-- the number of partitions that are not empty
abbrev pub filled : List ℕ → ℕ
filled parts = count_by (λ size. nat_lt 0 size) parts

-- Many partitions are empty: some are filled, but their share of all is below the ratio, which is in thousandths.
abbrev pub many_empty : List ℕ → ℕ → Bool
many_empty parts ratio = nat_lt 0 (filled parts) && nat_lt (1000 * filled parts) (ratio * length parts)

-- A side is small: its estimated total is at most the first threshold, or its measured total is at most the adaptive one and
-- not many of its partitions are empty. A side that is broadcast already is not asked.
abbrev pub small_by : SizeSource → ℕ → List ℕ → JoinRule → Bool
small_by Estimate total parts rule = int_le (pos total) rule.first_threshold
small_by Shuffle total parts rule = int_le (pos total) rule.adaptive_threshold && not (many_empty parts rule.ratio_thousandths)
small_by source.Broadcast total parts rule = false

abbrev pub is_small : SideData → JoinRule → Bool
is_small sizes rule = small_by sizes.source sizes.total sizes.parts rule

-- A side may be hashed partition by partition: its partitions were measured, and each is at most the local threshold.
abbrev pub hashable_by : SizeSource → List ℕ → JoinRule → Bool
hashable_by Shuffle parts rule = list_all (λ size. nat_le size rule.local_map) parts
hashable_by source parts rule = false

abbrev pub is_hashable : SideData → JoinRule → Bool
is_hashable sizes rule = hashable_by sizes.source sizes.parts rule

abbrev pub is_broadcast_by : SizeSource → Bool
is_broadcast_by source.Broadcast = true
is_broadcast_by source = false

-- a side that the kind of join lets be built: it is small; it may be hashed; it is held by a broadcast stage
abbrev pub fits_broadcast : JoinKind → Side → SideData → JoinRule → Bool
fits_broadcast kind side sizes rule = may_build kind side && is_small sizes rule

abbrev pub prefers_hash : JoinKind → Side → SideData → JoinRule → Bool
prefers_hash kind side sizes rule = may_build kind side && (nat_le rule.advisory rule.local_map && is_hashable sizes rule)

abbrev pub is_held : JoinKind → Side → SideData → Bool
is_held kind side sizes = may_build kind side && is_broadcast_by sizes.source

-- what holds of a side of which nothing is known: nothing
abbrev pub known : (SideData → Bool) → Option SideData → Bool
known test None = false
known test (Some sizes) = test sizes

-- the whole size of a side of which something is known
abbrev pub total_of : Option SideData → ℕ
total_of None = 0
total_of (Some sizes) = sizes.total

-- the first side, the right, else the other
abbrev pub right_first : Bool → Bool → Option Side
right_first left right = cond right (Some Right) (cond left (Some Left) None)

-- of two sides that serve the smaller, the right where both are as large
abbrev pub smaller : Bool → Bool → ℕ → ℕ → Option Side
smaller left right left_total right_total =
    right_first left (right && not (left && nat_lt left_total right_total))

-- the case of the side, or else what comes behind it
abbrev pub in_case : (Side → JoinChoice) → Option Side → JoinChoice → JoinChoice
in_case way None behind = behind
in_case way (Some side) behind = way side

-- the side that is held by a broadcast stage, the right before the left
abbrev pub held_side : JoinKind → Option SideData → Option SideData → Option Side
held_side kind left right = right_first (known (is_held kind Left) left) (known (is_held kind Right) right)

-- the side that is broadcast for its size; the side that is hashed
abbrev pub small_side : JoinKind → Option SideData → Option SideData → JoinRule → Option Side
small_side kind left right rule =
    smaller (known (λ sizes. fits_broadcast kind Left sizes rule) left) (known (λ sizes. fits_broadcast kind Right sizes rule) right)
    (total_of left) (total_of right)

abbrev pub hashed_side : JoinKind → Option SideData → Option SideData → JoinRule → Option Side
hashed_side kind left right rule =
    smaller (known (λ sizes. prefers_hash kind Left sizes rule) left) (known (λ sizes. prefers_hash kind Right sizes rule) right)
    (total_of left) (total_of right)

-- The choice, the first case that holds: the broadcast of a side that is held so; the broadcast of a side that is small;
-- a hash join of a side that may be hashed; else a sort-merge join.
abbrev pub choice : JoinKind → Option SideData → Option SideData → JoinRule → JoinChoice
choice kind left right rule =
    in_case Broadcast (held_side kind left right)
    (in_case Broadcast (small_side kind left right rule)
    (in_case ShuffledHash (hashed_side kind left right rule) SortMerge))
