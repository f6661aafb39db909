-- The cells of an exchange while rows are written.
use Rattle.std.specs.Prelude.{ℕ, List, [], ◌∷◌, ◌++◌, slice_set}
use Rattle.aqe_blocks.specs.Cells.{CellData, cell_of}
use Rattle.aqe_logical.specs.Answers.{Row}

-- the cells with a row behind those of one of them
abbrev pub with_row : List CellData → ℕ → Row → List CellData
with_row cells place row = slice_set cells place (cell_of cells place ++ row ∷ [])
