-- The forms of plans that tasks carry out, each with a part at least.
use Rattle.std.specs.Prelude.{◌≤◌, length}
use Rattle.aqe_physical.specs.declared.target.Target.{Target}
use Rattle.aqe_physical.specs.declared.target.Target.TheVariants as target
use Rattle.aqe_physical.specs.declared.plan.Plan.{Plan, OneRow, Scan, Nothing, Read, ReadBroadcast}
use Rattle.aqe_physical.specs.Shapes.{kept, mapped, moved, matched, grouped, finished, ordered, cut_locally, cut_globally, both_of}
use Rattle.aqe_physical.specs.Counts.{part_count}
use Rattle.aqe_stages.specs.Stages.{Stage}
use Rattle.aqe_task.specs.Built.{IsBuiltBody}

-- where rows go: by a hash or by ranges to one part at least, to a single part, or to each reader
abbrev pub IsBuiltTo : Target → Type 0
IsBuiltTo (target.Hash keys n) = 1 ≤ n
IsBuiltTo (target.Range keys n sample) = 1 ≤ n
IsBuiltTo target.Single = Unit {0}
IsBuiltTo target.Broadcast = Unit {0}

-- what may stand in a plan
abbrev pub IsBuiltNode : Plan → Type 0
IsBuiltNode OneRow = Unit {0}
IsBuiltNode (Scan table files) = Unit {0}
IsBuiltNode (Nothing count width) = ⊥
IsBuiltNode (Read stage maps reducers rects) = 1 ≤ length rects
IsBuiltNode (ReadBroadcast stage) = Unit {0}
IsBuiltNode (kept test child) = Unit {0}
IsBuiltNode (mapped items child) = Unit {0}
IsBuiltNode (moved to child) = IsBuiltTo to
IsBuiltNode (matched how kind keys v w left right) = Unit {0}
IsBuiltNode (grouped keys calls child) = Unit {0}
IsBuiltNode (finished keys calls child) = Unit {0}
IsBuiltNode (ordered keys child) = Unit {0}
IsBuiltNode (cut_locally count child) = Unit {0}
IsBuiltNode (cut_globally count skip child) = Unit {0}
IsBuiltNode (both_of left right) = Unit {0}

-- a stage that tasks carry out, of which there is one at least
abbrev pub IsCarriedOut : Stage → Type 0
IsCarriedOut stage = IsBuiltBody stage.body × (1 ≤ part_count stage.body)
