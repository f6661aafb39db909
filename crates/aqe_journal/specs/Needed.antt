-- Which stages a plan and a stage read, which of them are needed, and what a stage is to the board.
use Rattle.std.specs.Prelude.{ℕ, suc, Bool, false, true, not, ◌&&◌, ◌||◌, ◌==◌, Option, Some, None, List, [], ◌∷◌, map, slice_get}
use Rattle.std.specs.List.{list_any, range_with_len}
use Rattle.aqe_physical.specs.declared.target.Target.{Target}
use Rattle.aqe_physical.specs.declared.target.Target.TheVariants as target
use Rattle.aqe_physical.specs.declared.target.StageKind.{StageKind}
use Rattle.aqe_physical.specs.declared.target.StageKind.TheVariants as kind
use Rattle.aqe_physical.specs.declared.plan.Plan.{Plan, Read, ReadBroadcast}
use Rattle.aqe_physical.specs.Shapes.{moved}
use Rattle.aqe_physical.specs.Nodes.{nodes}
use Rattle.aqe_physical.specs.Counts.{part_count}
use Rattle.aqe_stages.specs.Stages.{Stage, Stages}
use Rattle.aqe_stages.specs.Reads as reads
use Rattle.aqe_stages.specs.Reads.{task_needs}
use Rattle.aqe_scheduler.specs.declared.need.Need.{Need}
use Rattle.aqe_scheduler.specs.declared.need.StageKindTag.{StageKindTag}
use Rattle.aqe_scheduler.specs.declared.need.StageKindTag.TheVariants as tag
use Rattle.aqe_scheduler.specs.History.{Birth}

-- a target reads the stage that holds its samples
abbrev pub target_reads : ℕ → Target → Bool
target_reads s (target.Range keys n (Some stage)) = stage.0 == s
target_reads s to = false

-- A plan reads the stages of its reads, and the samples that its ranges name.
abbrev pub node_reads : ℕ → Plan → Bool
node_reads s (Read stage maps reducers rects) = stage.0 == s
node_reads s (ReadBroadcast stage) = stage.0 == s
node_reads s (moved to child) = target_reads s to
node_reads s node = false

abbrev pub plan_reads : Plan → ℕ → Bool
plan_reads plan s = list_any (node_reads s) (nodes plan)

-- A stage reads those of its body, and the sample that its target names.
abbrev pub kind_reads : ℕ → StageKind → Bool
kind_reads s (kind.Shuffle to) = target_reads s to
kind_reads s other = false

abbrev pub stage_reads : Stage → ℕ → Bool
stage_reads stage s = kind_reads s stage.kind || plan_reads stage.body s

abbrev pub is_result : StageKind → Bool
is_result kind.Result = true
is_result other = false

-- some later stage that is needed and not whole reads stage s; the later stages come with their marks, and the first has number n
abbrev pub is_read_later : (ℕ → Bool) → ℕ → ℕ → List Stage → List Bool → Bool
is_read_later is_whole s n [] marks = false
is_read_later is_whole s n (stage ∷ later) [] = false
is_read_later is_whole s n (stage ∷ later) (is_needed ∷ marks) =
    (is_needed && (not (is_whole n) && stage_reads stage s)) || is_read_later is_whole s (suc n) later marks

-- A stage is needed if the plan reads it, or a later stage does that is needed and not whole; and so is the result stage. A mark
-- for each stage, in order, of which the first has number n.
abbrev pub marks_from : (ℕ → Bool) → Plan → ℕ → List Stage → List Bool
marks_from is_whole plan n [] = []
marks_from is_whole plan n (stage ∷ later) =
    (is_result stage.kind || (plan_reads plan n || is_read_later is_whole n (suc n) later (marks_from is_whole plan (suc n) later)))
    ∷ marks_from is_whole plan (suc n) later

abbrev pub needed_stages : (ℕ → Bool) → Plan → Stages → List Bool
needed_stages is_whole plan stages = marks_from is_whole plan 0 stages

-- what kind of stage it is to the board
abbrev pub tag_of : StageKind → StageKindTag
tag_of (kind.Shuffle to) = tag.Shuffle
tag_of kind.Broadcast = tag.Broadcast
tag_of (kind.Sample keys) = tag.Sample
tag_of kind.Result = tag.Result

-- the number of maps of a stage; a stage that is not there has none
abbrev pub maps_in : Option Stage → ℕ
maps_in (Some stage) = part_count stage.body
maps_in None = 0

abbrev pub map_count : Stages → ℕ → ℕ
map_count stages s = maps_in (slice_get stages s)

-- what a task needs, with the number of maps that a stage has where all of them are needed
abbrev pub need_over : Stages → reads.Need → Need
need_over stages (reads.some_maps s m0 m1) = record { stage = record { 0 = s }; m0 = m0; m1 = m1 }
need_over stages (reads.all_maps s) = record { stage = record { 0 = s }; m0 = 0; m1 = map_count stages s }

-- what each task of a stage reads, over the stages before it
abbrev pub reads_of : Stages → Stage → List (List Need)
reads_of stages stage = map (λ k. map (need_over stages) (task_needs stage.kind stage.body k)) (range_with_len 0 (part_count stage.body))

-- what a stage is to the board when it is made over the stages before it
abbrev pub birth_over : Stages → Stage → Birth
birth_over stages stage = record { kind = tag_of stage.kind; reads = reads_of stages stage }
