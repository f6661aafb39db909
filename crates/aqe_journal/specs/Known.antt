-- What is known of the sizes of stages at a position.
use Rattle.std.specs.Prelude.{ℕ, Bool, false, not, ◌&&◌, ◌==◌, cond, List, [], ◌∷◌, map, filter, flat_map, length, Option, Some, None, slice_get}
use Rattle.std.specs.List.{range_with_len}
use Rattle.aqe_base.specs.declared.stage_id.StageId.{StageId}
use Rattle.aqe_logical.specs.Answers.{Tables}
use Rattle.aqe_physical.specs.declared.sizes.StageSize.{StageSize}
use Rattle.aqe_physical.specs.declared.sizes.HeldSizes.{HeldSizes}
use Rattle.aqe_physical.specs.Counts.{part_count}
use Rattle.aqe_stages.specs.Stages.{Stage, Output}
use Rattle.aqe_stages.specs.Parts.{cells}
use Rattle.aqe_stages.specs.Runnable.{reducers_of}
use Rattle.aqe_stages.specs.Sizes.{size, row_count}
use Rattle.aqe_journal.specs.Needed.{is_result}
use Rattle.aqe_journal.specs.States.{State, is_materialised}

-- the sizes of all cells that a stage holds, those of the first map first, and the number of its rows
abbrev pub cell_sizes : ℕ → ℕ → Output → List ℕ
cell_sizes maps reducers output = flat_map (λ m. map (size output m) (range_with_len 0 reducers)) (range_with_len 0 maps)

abbrev pub held_sizes : ℕ → ℕ → Output → HeldSizes
held_sizes maps reducers output = record { cells = cell_sizes maps reducers output; rows = row_count output }

-- of each stage its maps and reducers, and once it is materialised what it holds
abbrev pub stage_size : Tables → State → ℕ → Stage → StageSize
stage_size tables now s stage = record {
  stage = record { 0 = s };
  maps = part_count stage.body;
  reducers = reducers_of stage.kind;
  held = cond (is_materialised now s) (Some (held_sizes (part_count stage.body) (reducers_of stage.kind) (cells tables now.stages s))) None;
}

-- the numbers of the stages that are no result
abbrev pub is_no_result : Option Stage → Bool
is_no_result (Some stage) = not (is_result stage.kind)
is_no_result None = false

abbrev pub sized : Tables → State → ℕ → Option Stage → List StageSize
sized tables now s (Some stage) = cond (is_result stage.kind) [] (stage_size tables now s stage ∷ [])
sized tables now s None = []

-- what is known of all stages but the result
abbrev pub known_sizes : Tables → State → List StageSize
known_sizes tables now = flat_map (λ s. sized tables now s (slice_get now.stages s)) (range_with_len 0 (length now.stages))

-- the materialised stages that hold no rows
abbrev pub empty_stages : Tables → State → List StageId
empty_stages tables now =
    map (λ s. record { 0 = s }) (filter (λ s. is_materialised now s && (row_count (cells tables now.stages s) == 0)) (range_with_len 0 (length now.stages)))
