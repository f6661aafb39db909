-- The parts of small plans, each form once, written out by hand from the rules: a check of the definitions.
use Rattle.std.proofs.Common.{◌≡◌, ℕ, true, false, List, [], ◌∷◌, refl, pos, Some, None}
use Rattle.std.specs.Int.{int_wrap}
use Rattle.std.proofs.lemmas.List.Elements.{All-head}
use Rattle.aqe_base.specs.declared.cells.Rect.{Rect}
use Rattle.aqe_base.specs.declared.stage_id.StageId.{StageId}
use Rattle.aqe_base.specs.declared.join_kind.JoinKind.TheVariants.{Inner, LeftOuter, RightOuter, FullOuter}
use Rattle.aqe_base.specs.declared.join_kind.Side.TheVariants.{Left, Right}
use Rattle.aqe_values.specs.declared.value.Value.TheVariants.{Null, Boolean, Int, BigInt}
use Rattle.aqe_expr.specs.declared.expr.Expr.{Expr, Column, Literal}
use Rattle.aqe_expr.specs.declared.expr.BinaryOp.TheVariants as binary
use Rattle.aqe_expr.specs.Shapes.{binary_of}
use Rattle.aqe_logical.specs.declared.plan.AggCall.{AggCall}
use Rattle.aqe_logical.specs.declared.plan.AggFun.TheVariants.{Count, Sum}
use Rattle.aqe_logical.specs.declared.plan.SortKey.{SortKey}
use Rattle.aqe_logical.specs.Answers.{Row, Tables}
use Rattle.aqe_join_rows.specs.declared.join_keys.JoinKeys.{JoinKeys}
use Rattle.aqe_join_rows.specs.Matching.{keys_meet}
use Rattle.aqe_join_rows.specs.Orders.{ascending}
use Rattle.aqe_physical.specs.declared.target.Target.TheVariants as to
use Rattle.aqe_physical.specs.declared.target.StageKind.TheVariants as kind
use Rattle.aqe_physical.specs.declared.target.JoinWay.TheVariants as way
use Rattle.aqe_physical.specs.declared.plan.Plan.{Plan, OneRow, Scan, Nothing, Read, ReadBroadcast}
use Rattle.aqe_physical.specs.Shapes.{kept, mapped, moved, matched, grouped, finished, ordered, cut_locally, cut_globally, both_of}
use Rattle.aqe_physical.specs.Counts.{shuffles}
use Rattle.aqe_stages.specs.Stages.{Stage, Stages, Given}
use Rattle.aqe_stages.specs.Parts.{parts, given_by, cells, out, all}
use Rattle.aqe_stages.specs.Reads.{some_maps, all_maps, needs, task_needs}
use Rattle.aqe_stages.specs.Sizes.{size, map_sizes, partition_sizes, total_size, row_count}
use Rattle.aqe_stages.specs.Runnable.{Runnable, CanRun, Narrow, SidesServe}

abbrev row : ℕ → Row
row n = Int (pos n) ∷ []

abbrev two : ℕ → ℕ → Row
two a b = Int (pos a) ∷ Int (pos b) ∷ []

-- table 0 has two files; tables 1 and 2 have one; table 3 has an empty one; table 4 has a row twice
abbrev tables : Tables
tables =
    ((row 5 ∷ row 1 ∷ []) ∷ (row 4 ∷ row 2 ∷ row 3 ∷ []) ∷ []) ∷
    ((row 2 ∷ row 1 ∷ []) ∷ []) ∷
    ((row 1 ∷ row 3 ∷ row 2 ∷ []) ∷ []) ∷
    ([] ∷ []) ∷
    ((row 7 ∷ row 8 ∷ []) ∷ (row 7 ∷ []) ∷ []) ∷ []

abbrev id : ℕ → StageId
id n = record { 0 = n }

abbrev first : List Expr
first = Column 0 ∷ []

abbrev by_first : List SortKey
by_first = ascending (Column 0) ∷ []

-- among four parts the hash places 2, 4 and 5 at part 2, and 1 and 3 at part 3
abbrev stage_0 : Stage
stage_0 = record { kind = kind.Shuffle (to.Hash first 4); body = Scan 0 2 }

abbrev stage_1 : Stage
stage_1 = record { kind = kind.Sample by_first; body = Scan 0 2 }

abbrev stage_2 : Stage
stage_2 = record { kind = kind.Broadcast; body = Scan 0 2 }

abbrev stages : Stages
stages = stage_0 ∷ stage_1 ∷ stage_2 ∷ []

abbrev given : Given
given = given_by tables stages

abbrev parts_of : Plan → List (List Row)
parts_of plan = parts tables given plan

one_row : parts_of OneRow ≡ ([] ∷ []) ∷ []
one_row = refl

scan : parts_of (Scan 0 2) ≡ (row 5 ∷ row 1 ∷ []) ∷ (row 4 ∷ row 2 ∷ row 3 ∷ []) ∷ []
scan = refl

empty_file : parts_of (Scan 3 1) ≡ [] ∷ []
empty_file = refl

nothing : parts_of (Nothing 2 1) ≡ [] ∷ [] ∷ []
nothing = refl

filter_of : parts_of (kept (binary_of binary.Lt (Column 0) (Literal (Int (pos 3)))) (Scan 0 2)) ≡ (row 1 ∷ []) ∷ (row 2 ∷ []) ∷ []
filter_of = refl

project_of : parts_of (mapped (Literal (Int (pos 9)) ∷ Column 0 ∷ []) (Scan 1 1)) ≡ (two 9 2 ∷ two 9 1 ∷ []) ∷ []
project_of = refl

-- what the stages hold: a cell of each map and reducer, some of them empty; the keys of each part; each part
hash_cells : cells tables stages 0 ≡ ([] ∷ [] ∷ (row 5 ∷ []) ∷ (row 1 ∷ []) ∷ []) ∷ ([] ∷ [] ∷ (row 4 ∷ row 2 ∷ []) ∷ (row 3 ∷ []) ∷ []) ∷ []
hash_cells = refl

sample_cells : cells tables stages 1 ≡ ((row 5 ∷ row 1 ∷ []) ∷ []) ∷ ((row 4 ∷ row 2 ∷ row 3 ∷ []) ∷ []) ∷ []
sample_cells = refl

broadcast_cells : cells tables stages 2 ≡ ((row 5 ∷ row 1 ∷ []) ∷ []) ∷ ((row 4 ∷ row 2 ∷ row 3 ∷ []) ∷ []) ∷ []
broadcast_cells = refl

no_cells : cells tables stages 3 ≡ []
no_cells = refl

abbrev rect : ℕ → ℕ → ℕ → ℕ → Rect
rect m0 m1 r0 r1 = record { m0 = m0; m1 = m1; r0 = r0; r1 = r1 }

-- a rectangle is read by reducer, and of one reducer by map; another has no row
read : parts_of (Read (id 0) 2 4 (rect 0 2 2 4 ∷ rect 0 1 0 2 ∷ [])) ≡ (row 5 ∷ row 4 ∷ row 2 ∷ row 1 ∷ row 3 ∷ []) ∷ [] ∷ []
read = refl

read_broadcast : parts_of (ReadBroadcast (id 2)) ≡ (row 5 ∷ row 1 ∷ row 4 ∷ row 2 ∷ row 3 ∷ []) ∷ []
read_broadcast = refl

hashed : parts_of (moved (to.Hash first 4) (Scan 0 2)) ≡ [] ∷ [] ∷ (row 5 ∷ row 4 ∷ row 2 ∷ []) ∷ (row 1 ∷ row 3 ∷ []) ∷ []
hashed = refl

-- of the samples 1 to 5 the one at 1 * 5 / 2 bounds the second of two ranges: the 3, which stands before no key of the first
ranged : parts_of (moved (to.Range by_first 2 None) (Scan 0 2)) ≡ (row 1 ∷ row 2 ∷ row 3 ∷ []) ∷ (row 5 ∷ row 4 ∷ []) ∷ []
ranged = refl

ranged_by_sample : parts_of (moved (to.Range by_first 2 (Some (id 1))) (Scan 0 2)) ≡ (row 1 ∷ row 2 ∷ row 3 ∷ []) ∷ (row 5 ∷ row 4 ∷ []) ∷ []
ranged_by_sample = refl

-- an exchange has the parts of its target, and not those of its child
one_part : parts_of (moved to.Single (Scan 0 2)) ≡ (row 5 ∷ row 1 ∷ row 4 ∷ row 2 ∷ row 3 ∷ []) ∷ []
one_part = refl

broadcasted : parts_of (moved to.Broadcast (Scan 0 2)) ≡ (row 5 ∷ row 1 ∷ row 4 ∷ row 2 ∷ row 3 ∷ []) ∷ []
broadcasted = refl

abbrev equal_keys : JoinKeys
equal_keys = record { left = first; right = first; rest = Literal (Boolean true) }

abbrev smaller : JoinKeys
smaller = record { left = []; right = []; rest = binary_of binary.Lt (Column 0) (Column 1) }

null_meets_nothing : keys_meet (Null ∷ []) (Null ∷ []) ≡ false
null_meets_nothing = refl

-- sorted by its keys on both sides, then the right row without a match
merge : parts_of (matched way.SortMerge FullOuter equal_keys 1 1 (Scan 1 1) (Scan 2 1)) ≡ (two 1 1 ∷ two 2 2 ∷ (Null ∷ Int (pos 3) ∷ []) ∷ []) ∷ []
merge = refl

-- in the order of the left side where the right one is built, and of the right side where the left one is
right_built : parts_of (matched (way.ShuffledHash Right) Inner equal_keys 1 1 (Scan 1 1) (Scan 2 1)) ≡ (two 2 2 ∷ two 1 1 ∷ []) ∷ []
right_built = refl

left_built : parts_of (matched (way.ShuffledHash Left) RightOuter equal_keys 1 1 (Scan 1 1) (Scan 2 1)) ≡ (two 1 1 ∷ (Null ∷ Int (pos 3) ∷ []) ∷ two 2 2 ∷ []) ∷ []
left_built = refl

-- a broadcast join has the parts of the side that is not built
right_broadcast : parts_of (matched (way.Broadcast Right) Inner equal_keys 1 1 (Scan 0 2) (Scan 2 1)) ≡ (two 1 1 ∷ []) ∷ (two 2 2 ∷ two 3 3 ∷ []) ∷ []
right_broadcast = refl

left_broadcast : parts_of (matched (way.Broadcast Left) Inner equal_keys 1 1 (Scan 1 1) (Scan 0 2)) ≡ (two 1 1 ∷ []) ∷ (two 2 2 ∷ []) ∷ []
left_broadcast = refl

nested : parts_of (matched way.NestedLoop Inner smaller 1 1 (Scan 1 1) (Scan 2 1)) ≡ (two 2 3 ∷ two 1 3 ∷ two 1 2 ∷ []) ∷ []
nested = refl

-- how many rows there are, counted over a literal that is not NULL
abbrev count : AggCall
count = record { fun = Count; arg = Literal (Int (pos 1)) }

abbrev sum : AggCall
sum = record { fun = Sum; arg = Column 0 }

abbrev counted : ℕ → ℕ → Row
counted key n = Int (pos key) ∷ BigInt (pos n) ∷ []

partial : parts_of (grouped first (count ∷ []) (Scan 4 2)) ≡ (counted 7 1 ∷ counted 8 1 ∷ []) ∷ (counted 7 1 ∷ []) ∷ []
unfolding int_wrap
partial = refl

final : parts_of (finished 1 (count ∷ []) (moved to.Single (grouped first (count ∷ []) (Scan 4 2)))) ≡ (counted 7 2 ∷ counted 8 1 ∷ []) ∷ []
unfolding int_wrap
final = refl

-- without keys each part gives one row, an empty one too
partial_of_nothing : parts_of (grouped [] (count ∷ sum ∷ []) (Scan 3 1)) ≡ ((BigInt (pos 0) ∷ Null ∷ []) ∷ []) ∷ []
partial_of_nothing = refl

final_of_nothing : parts_of (finished 0 (count ∷ sum ∷ []) (Nothing 1 2)) ≡ ((BigInt (pos 0) ∷ Null ∷ []) ∷ []) ∷ []
final_of_nothing = refl

sort : parts_of (ordered by_first (Scan 0 2)) ≡ (row 1 ∷ row 5 ∷ []) ∷ (row 2 ∷ row 3 ∷ row 4 ∷ []) ∷ []
sort = refl

local_limit : parts_of (cut_locally 1 (Scan 0 2)) ≡ (row 5 ∷ []) ∷ (row 4 ∷ []) ∷ []
local_limit = refl

global_limit : parts_of (cut_globally (Some 2) 1 (moved to.Single (Scan 0 2))) ≡ (row 1 ∷ row 4 ∷ []) ∷ []
global_limit = refl

without_count : parts_of (cut_globally None 3 (moved to.Single (Scan 0 2))) ≡ (row 2 ∷ row 3 ∷ []) ∷ []
without_count = refl

union : parts_of (both_of (Scan 1 1) (Scan 2 1)) ≡ (row 2 ∷ row 1 ∷ []) ∷ (row 1 ∷ row 3 ∷ row 2 ∷ []) ∷ []
union = refl

whole : all tables stages (both_of (Scan 1 1) (Scan 2 1)) ≡ row 2 ∷ row 1 ∷ row 1 ∷ row 3 ∷ row 2 ∷ []
whole = refl

second : out tables stages (both_of (Scan 1 1) (Scan 2 1)) 1 ≡ row 1 ∷ row 3 ∷ row 2 ∷ []
second = refl

-- the second part of a union is the first part of its right side; a side that is broadcast is needed whole
needs_of_union : needs (both_of (Scan 1 1) (Read (id 0) 2 4 (rect 0 2 2 4 ∷ []))) 1 ≡ some_maps 0 0 2 ∷ []
needs_of_union = refl

needs_of_broadcast : needs (matched (way.Broadcast Right) Inner equal_keys 1 1 (Read (id 0) 2 4 (rect 0 2 0 2 ∷ rect 1 2 2 4 ∷ [])) (ReadBroadcast (id 2))) 1 ≡ some_maps 0 1 2 ∷ all_maps 2 ∷ []
needs_of_broadcast = refl

needs_of_range : task_needs (kind.Shuffle (to.Range by_first 2 (Some (id 1)))) (Scan 0 2) 0 ≡ all_maps 1 ∷ []
needs_of_range = refl

-- an INT takes five bytes
cell_size : size (cells tables stages 0) 1 2 ≡ 10
cell_size = refl

sizes_at_a_reducer : map_sizes (cells tables stages 0) 2 ≡ 5 ∷ 10 ∷ []
sizes_at_a_reducer = refl

sizes_of_partitions : partition_sizes (cells tables stages 0) 4 ≡ 0 ∷ 0 ∷ 15 ∷ 10 ∷ []
sizes_of_partitions = refl

size_of_stage : total_size (cells tables stages 0) ≡ 25
size_of_stage = refl

rows_of_stage : row_count (cells tables stages 0) ≡ 5
rows_of_stage = refl

-- a broadcast does not shuffle
one_shuffle : shuffles (both_of (moved to.Single (Scan 1 1)) (moved to.Broadcast (Scan 2 1))) ≡ 1
one_shuffle = refl

-- an exchange cannot be run within a body, and a left outer join cannot build its left side
not_with_an_exchange : Runnable tables stages (moved to.Single (Scan 0 2)) → ⊥
not_with_an_exchange h =
    let there : CanRun tables stages (moved to.Single (Scan 0 2)) × Narrow (all tables stages (moved to.Single (Scan 0 2))) =
    All-head (λ node. CanRun tables stages node × Narrow (all tables stages node)) (moved to.Single (Scan 0 2)) (Scan 0 2 ∷ []) h in
    there.0

not_built : SidesServe (way.Broadcast Left) LeftOuter 1 1 → ⊥
not_built h = absurd (cc)

-- a left outer join may build its right side
built : SidesServe (way.Broadcast Right) LeftOuter 2 1
built = (refl, refl)
