-- Rectangles of the cells of a stage: each cell stands at a map and a reducer.
use Rattle.std.specs.Prelude.{ℕ, ◌+◌, ◌≡◌, ◌≤◌, Bool, ◌&&◌, cond, List, map, count_by, nat_lt, nat_le}
use Rattle.std.specs.List.{range_with_len}
use Rattle.aqe_base.specs.declared.cells.Rect.{Rect}

-- whether a rectangle has the cell of map m and reducer r
abbrev pub has_cell : ℕ → ℕ → Rect → Bool
has_cell m r rect = (nat_le rect.m0 m && nat_lt m rect.m1) && (nat_le rect.r0 r && nat_lt r rect.r1)

-- how many of the rectangles have the cell
abbrev pub times_covered : List Rect → ℕ → ℕ → ℕ
times_covered rects m r = count_by (has_cell m r) rects

-- whether a stage of so many maps and reducers has the cell
abbrev pub is_cell : ℕ → ℕ → ℕ → ℕ → Bool
is_cell maps reducers m r = nat_lt m maps && nat_lt r reducers

-- Rectangles cover where each cell of the stage lies in exactly one of them, and no other cell in any.
abbrev pub Covers : List Rect → ℕ → ℕ → Type 0
Covers rects maps reducers = (m r : ℕ) → times_covered rects m r ≡ cond (is_cell maps reducers m r) 1 0

-- a rectangle lies within the cells of a stage
abbrev pub LiesWithin : ℕ → ℕ → Rect → Type 0
LiesWithin maps reducers rect = (rect.m1 ≤ maps) × (rect.r1 ≤ reducers)

-- the plain rectangles: one for each reducer, with all maps
abbrev pub plain_rect : ℕ → ℕ → Rect
plain_rect maps r = record { m0 = 0; m1 = maps; r0 = r; r1 = r + 1 }

abbrev pub plain_rects : ℕ → ℕ → List Rect
plain_rects maps reducers = map (plain_rect maps) (range_with_len 0 reducers)
