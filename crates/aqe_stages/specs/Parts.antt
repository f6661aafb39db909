-- The parts of a plan.
use Rattle.std.specs.Prelude.{ℕ, max, List, [], ◌∷◌, ◌++◌, map, filter, fold, take, drop, replicate, length, slice_index_or}
use Rattle.std.specs.List.{range_with_len}
use Rattle.aqe_base.specs.declared.join_kind.JoinKind.{JoinKind}
use Rattle.aqe_base.specs.declared.join_kind.Side.TheVariants.{Left, Right}
use Rattle.aqe_expr.specs.Meaning.{holds}
use Rattle.aqe_logical.specs.Answers.{Row, Tables, at_most_rows}
use Rattle.aqe_logical.specs.Groups.{row_of, finish_rows}
use Rattle.aqe_logical.specs.Order.{before}
use Rattle.aqe_places.specs.Sorting.{stable_sort}
use Rattle.aqe_partial.specs.PartialRows.{joined_parts, partial_rows}
use Rattle.aqe_join_rows.specs.Orders.{left_to_right, right_to_left, by_merging}
use Rattle.aqe_join_rows.specs.declared.join_keys.JoinKeys.{JoinKeys}
use Rattle.aqe_physical.specs.declared.target.JoinWay.{JoinWay}
use Rattle.aqe_physical.specs.declared.target.JoinWay.TheVariants as way
use Rattle.aqe_physical.specs.declared.plan.Plan.{Plan, OneRow, Scan, Nothing, Read, ReadBroadcast}
use Rattle.aqe_physical.specs.Shapes.{kept, mapped, moved, matched, grouped, finished, ordered, cut_locally, cut_globally, both_of}
use Rattle.aqe_stages.specs.Stages.{Stage, Stages, Given, Output, output_of}
use Rattle.aqe_stages.specs.Cells.{rect_rows, all_rows}
use Rattle.aqe_stages.specs.Places.{exchanged_parts, cells_of}

-- the rows of a file of a table
abbrev pub file_rows : Tables → ℕ → ℕ → List Row
file_rows tables table file = slice_index_or (slice_index_or tables table []) file []

-- the rows of a join of two parts: the order is that of its way
abbrev pub join_rows : JoinWay → JoinKind → JoinKeys → ℕ → ℕ → List Row → List Row → List Row
join_rows way.SortMerge kind keys v w a b = by_merging kind v w keys a b
join_rows (way.ShuffledHash Left) kind keys v w a b = right_to_left kind v keys a b
join_rows (way.ShuffledHash Right) kind keys v w a b = left_to_right kind v w keys a b
join_rows (way.Broadcast Left) kind keys v w a b = right_to_left kind v keys a b
join_rows (way.Broadcast Right) kind keys v w a b = left_to_right kind v w keys a b
join_rows way.NestedLoop kind keys v w a b = left_to_right kind v w keys a b

-- parts of one number taken together; a left part without a right one is taken with no row
abbrev pub side_by_side : (List Row → List Row → List Row) → List (List Row) → List (List Row) → List (List Row)
side_by_side join [] bs = []
side_by_side join (a ∷ as_) [] = join a [] ∷ side_by_side join as_ []
side_by_side join (a ∷ as_) (b ∷ bs) = join a b ∷ side_by_side join as_ bs

-- Which parts of the two sides are joined with each other: a side that is broadcast is taken whole with each part of
-- the other, a nested loop takes both sides whole, and the other ways take parts of one number.
abbrev pub joined_sides : JoinWay → (List Row → List Row → List Row) → List (List Row) → List (List Row) → List (List Row)
joined_sides way.SortMerge join as_ bs = side_by_side join as_ bs
joined_sides (way.ShuffledHash side) join as_ bs = side_by_side join as_ bs
joined_sides (way.Broadcast Left) join as_ bs = map (λ b. join (joined_parts as_) b) bs
joined_sides (way.Broadcast Right) join as_ bs = map (λ a. join a (joined_parts bs)) as_
joined_sides way.NestedLoop join as_ bs = join (joined_parts as_) (joined_parts bs) ∷ []

-- The parts of a plan, in order, each a list of rows.
abbrev pub parts : Tables → Given → Plan → List (List Row)
parts tables given OneRow = ([] ∷ []) ∷ []
parts tables given (Scan table files) = map (file_rows tables table) (range_with_len 0 (max 1 files))
parts tables given (Nothing count width) = replicate count []
parts tables given (Read stage maps reducers rects) = map (rect_rows (output_of given stage.0)) rects
parts tables given (ReadBroadcast stage) = all_rows (output_of given stage.0) ∷ []
parts tables given (kept cond child) = map (filter (holds cond)) (parts tables given child)
parts tables given (mapped items child) = map (map (row_of items)) (parts tables given child)
parts tables given (moved target child) = exchanged_parts given target (parts tables given child)
parts tables given (matched way kind keys v w left right) =
    joined_sides way (join_rows way kind keys v w) (parts tables given left) (parts tables given right)
parts tables given (grouped keys calls child) = map (partial_rows (length keys) (row_of keys) calls) (parts tables given child)
parts tables given (finished keys calls child) = map (finish_rows keys calls) (parts tables given child)
parts tables given (ordered keys child) = map (stable_sort (before keys)) (parts tables given child)
parts tables given (cut_locally count child) = map (take count) (parts tables given child)
parts tables given (cut_globally count skip child) = map (λ part. at_most_rows count (drop skip part)) (parts tables given child)
parts tables given (both_of left right) = parts tables given left ++ parts tables given right

-- what a stage holds, where those that it reads hold what is given: for each part of its body the cells of its kind
abbrev pub output : Tables → Given → Stage → Output
output tables given stage = map (cells_of given stage.kind (parts tables given stage.body)) (parts tables given stage.body)

-- what all stages hold: each is made over those before it
abbrev pub given_by : Tables → Stages → Given
given_by tables stages = fold (λ given stage. given ++ output tables given stage ∷ []) [] stages

-- part k of a plan over tables and stages, and the whole of it: its parts end to end
abbrev pub out : Tables → Stages → Plan → ℕ → List Row
out tables stages plan k = slice_index_or (parts tables (given_by tables stages) plan) k []

abbrev pub all : Tables → Stages → Plan → List Row
all tables stages plan = joined_parts (parts tables (given_by tables stages) plan)

-- the cell of map m and reducer r that a stage holds
abbrev pub cells : Tables → Stages → ℕ → Output
cells tables stages stage = output_of (given_by tables stages) stage
