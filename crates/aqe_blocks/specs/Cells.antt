-- The cells of a map's output: a list of rows for each reducer.
use Rattle.std.specs.Prelude.{◌≡◌, ℕ, List, [], length, map, sum_by, slice_index_or}
use Rattle.aqe_values.specs.declared.value.Value.{Value}
use Rattle.aqe_values.specs.Sizes.{row_size_of}

abbrev pub CellData : Type 0
CellData = List (List Value)

-- the rows of the cell of a reducer
abbrev pub cell_of : List CellData → ℕ → CellData
cell_of cells r = slice_index_or cells r []

-- the size of a cell is the sum of the sizes of its rows
abbrev pub size_of_cell : CellData → ℕ
size_of_cell rows = sum_by row_size_of rows

-- the size of all cells, and the number of all their rows
abbrev pub size_of_cells : List CellData → ℕ
size_of_cells cells = sum_by size_of_cell cells

abbrev pub rows_of_cells : List CellData → ℕ
rows_of_cells cells = sum_by length cells

-- the sizes that are kept of these cells, of all of them together, and the number of their rows, are theirs
pub record IsMeasured (cells : List CellData) (sizes : List ℕ) (size rows : ℕ) : Type 0 where
  pub each : sizes ≡ map size_of_cell cells
  pub all : size ≡ size_of_cells cells
  pub count : rows ≡ rows_of_cells cells
