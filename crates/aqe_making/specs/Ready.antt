-- When a part of a plan can be made a stage. Which stages are whole is told by their number.
use Rattle.std.specs.Prelude.{ℕ, Bool, true, false, ◌&&◌, Some}
use Rattle.aqe_physical.specs.declared.target.Target.{Target}
use Rattle.aqe_physical.specs.declared.target.Target.TheVariants.{Range}
use Rattle.aqe_physical.specs.declared.plan.Plan.{Plan, Read, ReadBroadcast}
use Rattle.aqe_physical.specs.Shapes.{kept, mapped, moved, matched, grouped, finished, ordered, cut_locally, cut_globally, both_of}

-- A plan is ready where it holds no exchange and reads whole stages alone.
abbrev pub is_ready : (ℕ → Bool) → Plan → Bool
is_ready whole (Read stage maps reducers rects) = whole stage.0
is_ready whole (ReadBroadcast stage) = whole stage.0
is_ready whole (kept test child) = is_ready whole child
is_ready whole (mapped items child) = is_ready whole child
is_ready whole (moved to child) = false
is_ready whole (matched way kind keys v w left right) = is_ready whole left && is_ready whole right
is_ready whole (grouped keys calls child) = is_ready whole child
is_ready whole (finished keys calls child) = is_ready whole child
is_ready whole (ordered keys child) = is_ready whole child
is_ready whole (cut_locally count child) = is_ready whole child
is_ready whole (cut_globally count skip child) = is_ready whole child
is_ready whole (both_of left right) = is_ready whole left && is_ready whole right
is_ready whole leaf = true

-- the sample that a range names has to be whole, too
abbrev pub sample_ready : (ℕ → Bool) → Target → Bool
sample_ready whole (Range keys n (Some stage)) = whole stage.0
sample_ready whole to = true
