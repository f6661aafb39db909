-- The cells of what a stage holds, and the rows that are read from them.
use Rattle.std.specs.Prelude.{ℕ, ◌-◌, List, [], flat_map, slice_index_or}
use Rattle.std.specs.List.{range_with_len}
use Rattle.aqe_base.specs.declared.cells.Rect.{Rect}
use Rattle.aqe_logical.specs.Answers.{Row}
use Rattle.aqe_partial.specs.PartialRows.{joined_parts}
use Rattle.aqe_stages.specs.Stages.{Output}

-- the cell of map m and reducer r
abbrev pub cell : Output → ℕ → ℕ → List Row
cell output m r = slice_index_or (slice_index_or output m []) r []

-- the numbers from one up to another, which is not one of them
abbrev pub numbers : ℕ → ℕ → List ℕ
numbers from to = range_with_len from (to - from)

-- the rows of a rectangle: its cells by reducer, and those of one reducer by map
abbrev pub rect_rows : Output → Rect → List Row
rect_rows output rect = flat_map (λ r. flat_map (λ m. cell output m r) (numbers rect.m0 rect.m1)) (numbers rect.r0 rect.r1)

-- all rows that a stage holds, map by map
abbrev pub all_rows : Output → List Row
all_rows output = flat_map joined_parts output
