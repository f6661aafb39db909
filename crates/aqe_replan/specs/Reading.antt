-- What is read in the place of an exchange, given the number of parts of the body of its stage.
use Rattle.std.specs.Prelude.{ℕ, Some, None}
use Rattle.aqe_base.specs.declared.stage_id.StageId.{StageId}
use Rattle.aqe_rects.specs.Rectangles.{plain_rects}
use Rattle.aqe_physical.specs.declared.target.Target.{Target}
use Rattle.aqe_physical.specs.declared.target.Target.TheVariants.{Range, Broadcast}
use Rattle.aqe_physical.specs.declared.plan.Plan.{Plan, Read, ReadBroadcast}
use Rattle.aqe_physical.specs.Shapes.{moved}
use Rattle.aqe_physical.specs.Counts.{target_count}
use Rattle.aqe_making.specs.Makings.{Place}
use Rattle.aqe_making.specs.After.{exchange_replaced}

abbrev pub read_with : StageId → ℕ → Target → Plan → Plan
read_with stage maps (Range keys n None) child = moved (Range keys n (Some stage)) child
read_with stage maps Broadcast child = ReadBroadcast stage
read_with stage maps to child = Read stage maps (target_count to) (plain_rects maps (target_count to))

-- a plan with the exchange at a place replaced by what is read of so many maps
abbrev pub replaced_with : StageId → ℕ → Place → Plan → Plan
replaced_with stage maps place plan = exchange_replaced (read_with stage maps) place plan
