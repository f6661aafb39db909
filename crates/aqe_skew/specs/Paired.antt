-- The pairs of rectangles that a join of two sides reads where partitions are skewed.
use Rattle.std.specs.Prelude.{ℕ, ◌+◌, ◌*◌, ◌≡◌, ◌<◌, ◌≤◌, ◌⊎◌, Bool, true, false, ◌&&◌, ◌||◌, List, [], ◌∷◌, ◌++◌, map, flat_map, length, sum, nat_lt, slice_index, Option, Some, None}
use Rattle.std.specs.Bool.{MatchBool}
use Rattle.std.specs.List.{range_with_len}
use Rattle.aqe_base.specs.declared.cells.CellSizes.{CellSizes}
use Rattle.aqe_base.specs.declared.cells.Rect.{Rect}
use Rattle.aqe_base.specs.declared.join_kind.JoinKind.{JoinKind}
use Rattle.aqe_base.specs.declared.join_kind.Side.{Side}
use Rattle.aqe_base.specs.declared.join_kind.Side.TheVariants.{Left, Right}
use Rattle.aqe_base.specs.Joins.{may_split}
use Rattle.aqe_coalesce.specs.Coalesced.{Group, Coalesced}
use Rattle.aqe_rects.specs.Pairs.{RectPair}
use Rattle.aqe_skew.specs.declared.rule.SkewRule.{SkewRule}
use Rattle.aqe_skew.specs.Skewed.{median, is_skewed, split_target}
use Rattle.aqe_skew.specs.Splits.{Split}

-- the sizes of the cells of a side; that of map m and reducer r stands at m * reducers + r
pub record SideCells : Type 0 where
  pub maps : ℕ
  pub reducers : ℕ
  pub cells : List ℕ

-- the sizes of the program as such data
abbrev pub seen : CellSizes → SideCells
seen sizes = record { maps = sizes.maps; reducers = sizes.reducers; cells = sizes.cells.now }

-- the sizes of the maps at one reducer; the size of a partition, and those of all
abbrev pub map_sizes : SideCells → ℕ → List ℕ
map_sizes side r = map (λ m. slice_index side.cells (m * side.reducers + r)) (range_with_len 0 side.maps)

abbrev pub partition_size : SideCells → ℕ → ℕ
partition_size side r = sum (map_sizes side r)

abbrev pub partition_sizes : SideCells → List ℕ
partition_sizes side = map (partition_size side) (range_with_len 0 side.reducers)

-- a partition of a side is skewed, and the kind of join lets the side be split
abbrev pub may_be_split : JoinKind → Side → SideCells → SkewRule → ℕ → Bool
may_be_split kind side cells rule r =
    may_split kind side && is_skewed (partition_size cells r) (median (partition_sizes cells)) rule

-- the rectangles of one reducer whose parts begin at these maps
abbrev pub rects_from : ℕ → ℕ → ℕ → List ℕ → List Rect
rects_from maps r start [] = record { m0 = start; m1 = maps; r0 = r; r1 = r + 1 } ∷ []
rects_from maps r start (next ∷ rest) = record { m0 = start; m1 = next; r0 = r; r1 = r + 1 } ∷ rects_from maps r next rest

abbrev pub rects_at : ℕ → ℕ → List ℕ → List Rect
rects_at maps r [] = []
rects_at maps r (start ∷ rest) = rects_from maps r start rest

-- Where the parts begin in which a side reads a reducer: a partition that may be split is cut; any other is one part.
abbrev pub PartsAt : JoinKind → Side → SideCells → SkewRule → ℕ → List ℕ → Type 0
PartsAt kind side cells rule r starts =
    MatchBool (may_be_split kind side cells rule r)
    (Split (map_sizes cells r) (split_target (partition_sizes cells) rule) starts)
    (starts ≡ 0 ∷ [])

-- one part is no split
abbrev pub are_split : List ℕ → List ℕ → Bool
are_split lefts rights = nat_lt 1 (length lefts) || nat_lt 1 (length rights)

-- each left rectangle with each right one, left first
abbrev pub all_pairs : List Rect → List Rect → List RectPair
all_pairs lefts rights = flat_map (λ left. map (λ right. (left, right)) rights) lefts

-- the groups in which a run of reducers is read: coalesced to the target, or one by one where there is none
abbrev pub one_by_one : ℕ → List Group
one_by_one n = map (λ i. (i, i + 1)) (range_with_len 0 n)

abbrev pub Grouped : Option ℕ → List ℕ → List Group → Type 0
Grouped None sizes groups = groups ≡ one_by_one (length sizes)
Grouped (Some target) sizes groups = Coalesced sizes target groups

-- the pair of a group of reducers, counted from the first of the run: all maps of either side
abbrev pub group_pair : ℕ → ℕ → ℕ → Group → RectPair
group_pair left_maps right_maps a group =
    (record { m0 = 0; m1 = left_maps; r0 = a + group.0; r1 = a + group.1 }, record { m0 = 0; m1 = right_maps; r0 = a + group.0; r1 = a + group.1 })

module _ (kind : JoinKind) (left right : SideCells) (rule : SkewRule) where
  -- the parts of both sides at a reducer
  abbrev pub PartsOfBoth : ℕ → List ℕ → List ℕ → Type 0
  PartsOfBoth r lefts rights = PartsAt kind Left left rule r lefts × PartsAt kind Right right rule r rights

  -- a side is split at the reducer; neither is
  abbrev pub IsSplitAt : ℕ → Type 0
  IsSplitAt r = (lefts rights : List ℕ) × PartsOfBoth r lefts rights × (are_split lefts rights ≡ true)

  abbrev pub IsWholeAt : ℕ → Type 0
  IsWholeAt r = (lefts rights : List ℕ) × PartsOfBoth r lefts rights × (are_split lefts rights ≡ false)

  -- the sizes of both sides at a reducer together, and those of a run of reducers
  abbrev pub both_sizes : ℕ → ℕ → List ℕ
  both_sizes a n = map (λ r. partition_size left r + partition_size right r) (range_with_len a n)

  -- The pairs of all reducers from one on, in rising order. Where a side is split, each part of the left is paired with each of the right. What
  -- lies between two such reducers is taken together, and read in groups.
  pub data PairsFrom (target : Option ℕ) : ℕ → List RectPair → Type 0 where
    at_end : {a : ℕ} {pairs : List RectPair} → a ≡ left.reducers → pairs ≡ [] → PairsFrom target a pairs
    in_parts : {a : ℕ} {pairs : List RectPair} (lefts rights : List ℕ) (rest : List RectPair) →
        a < left.reducers → PartsOfBoth a lefts rights → are_split lefts rights ≡ true →
        pairs ≡ all_pairs (rects_at left.maps a lefts) (rects_at right.maps a rights) ++ rest →
        PairsFrom target (a + 1) rest → PairsFrom target a pairs
    in_groups : {a : ℕ} {pairs : List RectPair} (n : ℕ) (groups : List Group) (rest : List RectPair) →
        0 < n → a + n ≤ left.reducers → ((r : ℕ) → a ≤ r → r < a + n → IsWholeAt r) → (a + n ≡ left.reducers) ⊎ IsSplitAt (a + n) →
        Grouped target (both_sizes a n) groups →
        pairs ≡ map (group_pair left.maps right.maps a) groups ++ rest →
        PairsFrom target (a + n) rest → PairsFrom target a pairs

-- the pairs of two sides with as many reducers
abbrev pub Paired : JoinKind → SideCells → SideCells → SkewRule → Option ℕ → List RectPair → Type 0
Paired kind left right rule target pairs = PairsFrom kind left right rule target 0 pairs

-- What is read: nothing is said where no reducer is split, and else the pairs.
abbrev pub SomeSplit : JoinKind → SideCells → SideCells → SkewRule → Type 0
SomeSplit kind left right rule = (r : ℕ) × (r < left.reducers) × IsSplitAt kind left right rule r

abbrev pub NoneSplit : JoinKind → SideCells → SideCells → SkewRule → Type 0
NoneSplit kind left right rule = (r : ℕ) → r < left.reducers → IsWholeAt kind left right rule r

abbrev pub PairedWhereSplit : JoinKind → SideCells → SideCells → SkewRule → Option ℕ → Option (List RectPair) → Type 0
PairedWhereSplit kind left right rule target None = NoneSplit kind left right rule
PairedWhereSplit kind left right rule target (Some pairs) = SomeSplit kind left right rule × Paired kind left right rule target pairs
