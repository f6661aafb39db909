-- Which stages can be made of a plan, and in which order.
use Rattle.std.specs.Prelude.{ℕ, Bool, cond, not, ◌&&◌, List, [], ◌∷◌, ◌++◌, map, None}
use Rattle.aqe_base.specs.declared.join_kind.Side.{Side}
use Rattle.aqe_base.specs.declared.join_kind.Side.TheVariants.{Left, Right}
use Rattle.aqe_physical.specs.declared.target.Target.{Target}
use Rattle.aqe_physical.specs.declared.target.Target.TheVariants.{Range, Broadcast}
use Rattle.aqe_physical.specs.declared.target.StageKind.TheVariants.{Result}
use Rattle.aqe_physical.specs.declared.plan.Plan.{Plan}
use Rattle.aqe_physical.specs.Shapes.{kept, mapped, moved, matched, grouped, finished, ordered, cut_locally, cut_globally, both_of}
use Rattle.aqe_stages.specs.Stages.{Stage}
use Rattle.aqe_stages.specs.Making.{shuffle, broadcast, sampling}
use Rattle.aqe_making.specs.Ready.{is_ready, sample_ready}

-- A place in a plan is the way down to it: to the left or to the right at each node. An only child stands at the left.
abbrev pub Place : Type 0
Place = List Side

-- a stage that can be made, and where it is made
pub record Making : Type 0 where
  pub place : Place
  pub stage : Stage

-- what is made below a side of a node
abbrev pub below : Side → Making → Making
below side making = record { place = side ∷ making.place; stage = making.stage }

-- The stage that is made of an exchange. A range needs samples first, so where it names none the sample stage is made in its place.
abbrev pub stage_of : Target → Plan → Stage
stage_of (Range keys n None) child = sampling keys child
stage_of Broadcast child = broadcast child
stage_of to child = shuffle to child

-- an exchange itself, where its part is ready and its sample is
abbrev pub made_here : (ℕ → Bool) → Target → Plan → List Making
made_here whole to child = cond (is_ready whole child && sample_ready whole to) (record { place = []; stage = stage_of to child } ∷ []) []

-- The stages that can be made of the exchanges of a plan, in order: below a node before the node, at its left before its right.
abbrev pub makings : (ℕ → Bool) → Plan → List Making
makings whole (kept test child) = map (below Left) (makings whole child)
makings whole (mapped items child) = map (below Left) (makings whole child)
makings whole (moved to child) = map (below Left) (makings whole child) ++ made_here whole to child
makings whole (matched way kind keys v w left right) = map (below Left) (makings whole left) ++ map (below Right) (makings whole right)
makings whole (grouped keys calls child) = map (below Left) (makings whole child)
makings whole (finished keys calls child) = map (below Left) (makings whole child)
makings whole (ordered keys child) = map (below Left) (makings whole child)
makings whole (cut_locally count child) = map (below Left) (makings whole child)
makings whole (cut_globally count skip child) = map (below Left) (makings whole child)
makings whole (both_of left right) = map (below Left) (makings whole left) ++ map (below Right) (makings whole right)
makings whole leaf = []

-- the result stage is made of the whole plan
abbrev pub result_of : Plan → Making
result_of plan = record { place = []; stage = record { kind = Result; body = plan } }

-- All that can be made of the plan of a query: its exchanges, and the result, where no exchange is left, all stages that the plan
-- reads are whole, and the result stage was not made yet.
abbrev pub all_makings : (ℕ → Bool) → Bool → Plan → List Making
all_makings whole has_result plan = makings whole plan ++ cond (is_ready whole plan && not has_result) (result_of plan ∷ []) []
