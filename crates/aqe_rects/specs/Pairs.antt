-- Pairs of rectangles, one of the left side of a join and one of the right, both sides of which have the same reducers.
use Rattle.std.specs.Prelude.{ℕ, ◌≡◌, ◌≢◌, ◌<◌, Bool, true, false, ◌&&◌, IsTrue, List, map, count_by, nat_lt, nat_le, All}
use Rattle.aqe_base.specs.declared.cells.Rect.{Rect}
use Rattle.aqe_base.specs.declared.join_kind.JoinKind.{JoinKind}
use Rattle.aqe_base.specs.declared.join_kind.JoinKind.TheVariants.{LeftOuter, RightOuter, FullOuter, LeftSemi, LeftAnti}
use Rattle.aqe_rects.specs.Rectangles.{has_cell, times_covered}

abbrev pub RectPair : Type 0
RectPair = Rect × Rect

-- whether a rectangle has the reducer
abbrev pub has_reducer : ℕ → Rect → Bool
has_reducer r rect = nat_le rect.r0 r && nat_lt r rect.r1

-- whether a left cell and a right cell stand together in a pair
abbrev pub has_both : ℕ → ℕ → ℕ → ℕ → RectPair → Bool
has_both m1 r1 m2 r2 pair = has_cell m1 r1 pair.0 && has_cell m2 r2 pair.1

-- for each reducer each left map meets each right map in exactly one pair
abbrev pub MeetOnce : ℕ → ℕ → ℕ → List RectPair → Type 0
MeetOnce left_maps right_maps reducers pairs =
    (m1 m2 r : ℕ) → m1 < left_maps → m2 < right_maps → r < reducers → count_by (has_both m1 r m2 r) pairs ≡ 1

-- cells of two reducers stand together only in a pair that has both reducers on both sides
abbrev pub StandsWhole : RectPair → Type 0
StandsWhole pair =
    (m1 r1 m2 r2 : ℕ) → r1 ≢ r2 → IsTrue (has_both m1 r1 m2 r2 pair) →
    IsTrue (has_reducer r1 pair.1) × IsTrue (has_reducer r2 pair.0)

-- Each cell of a side lies in exactly one pair, and the other side of a pair that has the cell has all maps of its reducer.
-- A pair is given with this side first.
abbrev pub HasAllMaps : ℕ → RectPair → Type 0
HasAllMaps maps pair =
    (m1 r m2 : ℕ) → IsTrue (has_cell m1 r pair.0) → m2 < maps → IsTrue (has_cell m2 r pair.1)

abbrev pub KeptWhole : ℕ → ℕ → ℕ → List RectPair → Type 0
KeptWhole maps other_maps reducers pairs =
    ((m r : ℕ) → m < maps → r < reducers → times_covered (map (λ pair. pair.0) pairs) m r ≡ 1) ×
    All (HasAllMaps other_maps) pairs

-- whether a kind of join decides a left row, or a right row, by all that it may meet
abbrev pub keeps_left : JoinKind → Bool
keeps_left LeftOuter = true
keeps_left FullOuter = true
keeps_left LeftSemi = true
keeps_left LeftAnti = true
keeps_left kind = false

abbrev pub keeps_right : JoinKind → Bool
keeps_right RightOuter = true
keeps_right FullOuter = true
keeps_right kind = false

abbrev pub turned : RectPair → RectPair
turned pair = (pair.1, pair.0)

-- Pairs serve a join of a kind: each left cell meets each right cell of its reducer once, cells of different reducers
-- meet nowhere that they would not meet alone, and where the kind decides a row by all that it may meet, its cell has
-- one pair, in which all of this stands.
pub record PairsServe (kind : JoinKind) (left_maps right_maps reducers : ℕ) (pairs : List RectPair) : Type 0 where
  pub meet : MeetOnce left_maps right_maps reducers pairs
  pub whole : All StandsWhole pairs
  pub left : IsTrue (keeps_left kind) → KeptWhole left_maps right_maps reducers pairs
  pub right : IsTrue (keeps_right kind) → KeptWhole right_maps left_maps reducers (map turned pairs)
