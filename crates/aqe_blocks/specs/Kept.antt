-- What is kept of the stages: the outputs of their maps.
use Rattle.std.specs.Prelude.{◌≡◌, ◌<◌, ◌^◌, ℕ, cond, ◌&&◌, ◌==◌, List, [], ◌∷◌, length, sum_by, All}
use Rattle.std.specs.Option.{unwrap_or}
use Rattle.std.specs.declared.option.Option.{Option}
use Rattle.std.specs.Ordering.{nat_cmp}
use Rattle.std.specs.Map.{lookup, remove_entry, values_of}
use Rattle.std.specs.BTreeMap.{is_at, insert_entry}
use Rattle.aqe_blocks.specs.Cells.{CellData, size_of_cells, rows_of_cells}

-- the outputs that are kept of one stage, each behind its map's number: in the order of the maps, each map once
abbrev pub StageKept : Type 0
StageKept = List (ℕ × List CellData)

-- the outputs that are kept, stage by stage, each behind its stage's number
abbrev pub AllKept : Type 0
AllKept = List (ℕ × StageKept)

-- the outputs that are kept of a stage: none of a stage that is not there
abbrev pub kept_of : AllKept → ℕ → StageKept
kept_of all stage = unwrap_or (lookup (is_at (nat_cmp stage)) all) []

-- the output of a map, if it is kept
abbrev pub of_map : StageKept → ℕ → Option (List CellData)
of_map kept map = lookup (is_at (nat_cmp map)) kept

abbrev pub output_at : AllKept → ℕ → ℕ → Option (List CellData)
output_at all stage map = of_map (kept_of all stage) map

-- what is kept of a stage with an output more, in place of one that stands there; and without the output of a map
abbrev pub with_output : StageKept → ℕ → List CellData → StageKept
with_output kept map output = insert_entry nat_cmp kept map output

abbrev pub without_output : StageKept → ℕ → StageKept
without_output kept map = remove_entry (is_at (nat_cmp map)) kept

-- the size of the outputs of a stage together, and the number of their rows
abbrev pub size_of_kept : StageKept → ℕ
size_of_kept kept = sum_by size_of_cells (values_of kept)

abbrev pub rows_of_kept : StageKept → ℕ
rows_of_kept kept = sum_by rows_of_cells (values_of kept)

-- each output has so many cells
abbrev pub HaveCells : ℕ → StageKept → Type 0
HaveCells n kept = All (λ cells. length cells ≡ n) (values_of kept)

-- the number of cells of the first output; 0 where none is kept
abbrev pub cells_each : StageKept → ℕ
cells_each [] = 0
cells_each (first ∷ kept) = length first.1

-- the output of a map becomes this one (or none), and that of each other map stays
abbrev pub ChangesMap : StageKept → StageKept → ℕ → Option (List CellData) → Type 0
ChangesMap old new map output = (m : ℕ) → of_map new m ≡ cond (map == m) output (of_map old m)

-- the output of a map of a stage becomes this one (or none), and each other one stays
abbrev pub Changes : AllKept → AllKept → ℕ → ℕ → Option (List CellData) → Type 0
Changes old new stage map output = (s m : ℕ) → output_at new s m ≡ cond (stage == s && map == m) output (output_at old s m)

-- a stage's outputs become these, and those of each other stage stay
abbrev pub Becomes : AllKept → AllKept → ℕ → StageKept → Type 0
Becomes old new stage kept = (s : ℕ) → kept_of new s ≡ cond (stage == s) kept (kept_of old s)

-- the size and the number of rows that are kept of a stage's outputs are theirs, those of each output are below 2^64, and all
-- outputs have as many cells
pub record IsTotalled (kept : StageKept) (size rows : ℕ) : Type 0 where
  pub all : size ≡ size_of_kept kept
  pub count : rows ≡ rows_of_kept kept
  pub small : All (λ cells. size_of_cells cells < 2 ^ 64) (values_of kept)
  pub few : All (λ cells. rows_of_cells cells < 2 ^ 64) (values_of kept)
  pub alike : HaveCells (cells_each kept) kept
