-- What a task carries out: each form of a plan but an exchange, which is no part of a body.
use Rattle.std.specs.Prelude.{Bool, true, false, ◌&&◌, IsTrue}
use Rattle.aqe_physical.specs.declared.plan.Plan.{Plan, OneRow, Scan, Nothing, Read, ReadBroadcast}
use Rattle.aqe_physical.specs.Shapes.{kept, mapped, moved, matched, grouped, finished, ordered, cut_locally, cut_globally, both_of}

abbrev pub is_built : Plan → Bool
is_built OneRow = true
is_built (Scan table files) = true
is_built (Nothing count width) = true
is_built (Read stage maps reducers rects) = true
is_built (ReadBroadcast stage) = true
is_built (kept cond child) = is_built child
is_built (mapped items child) = is_built child
is_built (moved target child) = false
is_built (matched way kind keys v w left right) = is_built left && is_built right
is_built (grouped keys calls child) = is_built child
is_built (finished keys calls child) = is_built child
is_built (ordered keys child) = is_built child
is_built (cut_locally count child) = is_built child
is_built (cut_globally count skip child) = is_built child
is_built (both_of left right) = is_built left && is_built right

abbrev pub IsBuiltBody : Plan → Type 0
IsBuiltBody body = IsTrue (is_built body)
