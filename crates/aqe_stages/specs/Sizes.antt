-- The sizes of what stages hold.
use Rattle.std.specs.Prelude.{ℕ, List, map, sum, length, sum_by}
use Rattle.std.specs.List.{range_with_len}
use Rattle.aqe_values.specs.Sizes.{row_size_of}
use Rattle.aqe_logical.specs.Answers.{Row}
use Rattle.aqe_stages.specs.Stages.{Output}
use Rattle.aqe_stages.specs.Cells.{cell, all_rows}

-- the size of rows is the sum of the sizes of each
abbrev pub rows_size : List Row → ℕ
rows_size rows = sum_by row_size_of rows

-- the size of the cell of map m and reducer r
abbrev pub size : Output → ℕ → ℕ → ℕ
size output m r = rows_size (cell output m r)

-- the sizes of the maps at one reducer, and their sum
abbrev pub map_sizes : Output → ℕ → List ℕ
map_sizes output r = map (λ m. size output m r) (range_with_len 0 (length output))

abbrev pub partition_size : Output → ℕ → ℕ
partition_size output r = sum (map_sizes output r)

-- the sizes of the partitions of a stage of so many reducers, and of all that it holds
abbrev pub partition_sizes : Output → ℕ → List ℕ
partition_sizes output reducers = map (partition_size output) (range_with_len 0 reducers)

abbrev pub total_size : Output → ℕ
total_size output = rows_size (all_rows output)

-- the number of all rows that a stage holds
abbrev pub row_count : Output → ℕ
row_count output = length (all_rows output)
