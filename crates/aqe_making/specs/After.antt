-- The plan after a stage was made.
use Rattle.std.specs.Prelude.{Option, Some, None, [], ◌∷◌}
use Rattle.aqe_base.specs.declared.stage_id.StageId.{StageId}
use Rattle.aqe_base.specs.declared.join_kind.Side.TheVariants.{Left, Right}
use Rattle.aqe_physical.specs.declared.target.Target.{Target}
use Rattle.aqe_physical.specs.declared.target.Target.TheVariants.{Range, Broadcast}
use Rattle.aqe_physical.specs.declared.plan.Plan.{Plan, ReadBroadcast}
use Rattle.aqe_physical.specs.Shapes.{kept, mapped, moved, matched, grouped, finished, ordered, cut_locally, cut_globally, both_of}
use Rattle.aqe_stages.specs.Stages.{Stage}
use Rattle.aqe_stages.specs.Making.{plain_read}
use Rattle.aqe_making.specs.Makings.{Place, stage_of}

-- What replaces an exchange of which a stage was made: the plain read of that stage, or its whole read after a broadcast. Where the stage
-- only samples the rows of a range, the exchange stays, and names it.
abbrev pub read_after : StageId → Target → Plan → Plan
read_after number (Range keys n None) child = moved (Range keys n (Some number)) child
read_after number Broadcast child = ReadBroadcast number
read_after number to child = plain_read number to child

-- a plan with the exchange at a place replaced by what is made of its target and its child; where no exchange stands there, all stays
abbrev pub exchange_replaced : (Target → Plan → Plan) → Place → Plan → Plan
exchange_replaced new (Left ∷ place) (kept test child) = kept test (exchange_replaced new place child)
exchange_replaced new (Left ∷ place) (mapped items child) = mapped items (exchange_replaced new place child)
exchange_replaced new [] (moved to child) = new to child
exchange_replaced new (Left ∷ place) (moved to child) = moved to (exchange_replaced new place child)
exchange_replaced new (Left ∷ place) (matched way kind keys v w left right) = matched way kind keys v w (exchange_replaced new place left) right
exchange_replaced new (Right ∷ place) (matched way kind keys v w left right) = matched way kind keys v w left (exchange_replaced new place right)
exchange_replaced new (Left ∷ place) (grouped keys calls child) = grouped keys calls (exchange_replaced new place child)
exchange_replaced new (Left ∷ place) (finished keys calls child) = finished keys calls (exchange_replaced new place child)
exchange_replaced new (Left ∷ place) (ordered keys child) = ordered keys (exchange_replaced new place child)
exchange_replaced new (Left ∷ place) (cut_locally count child) = cut_locally count (exchange_replaced new place child)
exchange_replaced new (Left ∷ place) (cut_globally count skip child) = cut_globally count skip (exchange_replaced new place child)
exchange_replaced new (Left ∷ place) (both_of left right) = both_of (exchange_replaced new place left) right
exchange_replaced new (Right ∷ place) (both_of left right) = both_of left (exchange_replaced new place right)
exchange_replaced new place plan = plan

-- the plan after the stage of a place was made
abbrev pub after : StageId → Place → Plan → Plan
after number place plan = exchange_replaced (read_after number) place plan

-- the stage that is made of what stands at a place
abbrev pub stage_at : Place → Plan → Option Stage
stage_at (Left ∷ place) (kept test child) = stage_at place child
stage_at (Left ∷ place) (mapped items child) = stage_at place child
stage_at [] (moved to child) = Some (stage_of to child)
stage_at (Left ∷ place) (moved to child) = stage_at place child
stage_at (Left ∷ place) (matched way kind keys v w left right) = stage_at place left
stage_at (Right ∷ place) (matched way kind keys v w left right) = stage_at place right
stage_at (Left ∷ place) (grouped keys calls child) = stage_at place child
stage_at (Left ∷ place) (finished keys calls child) = stage_at place child
stage_at (Left ∷ place) (ordered keys child) = stage_at place child
stage_at (Left ∷ place) (cut_locally count child) = stage_at place child
stage_at (Left ∷ place) (cut_globally count skip child) = stage_at place child
stage_at (Left ∷ place) (both_of left right) = stage_at place left
stage_at (Right ∷ place) (both_of left right) = stage_at place right
stage_at place plan = None
