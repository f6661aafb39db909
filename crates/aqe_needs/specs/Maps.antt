-- What parts of plans read, with the number of maps of each stage as a list.
use Rattle.std.specs.Prelude.{ℕ, Bool, cond, true, false, List, map, slice_index_or}
use Rattle.aqe_base.specs.declared.join_kind.Side.TheVariants.{Left, Right}
use Rattle.aqe_physical.specs.declared.target.JoinWay.{JoinWay}
use Rattle.aqe_physical.specs.declared.target.JoinWay.TheVariants as way
use Rattle.aqe_physical.specs.declared.target.Target.{Target}
use Rattle.aqe_physical.specs.declared.target.StageKind.{StageKind}
use Rattle.aqe_physical.specs.declared.plan.Plan.{Plan}
use Rattle.aqe_physical.specs.Counts.{part_count}
use Rattle.aqe_stages.specs.Reads as reads
use Rattle.aqe_stages.specs.Reads.{needs, all_needs, sample_needs, task_needs}
use Rattle.aqe_scheduler.specs.declared.need.Need.{Need}
use Rattle.aqe_journal.specs.declared.record.StageNote.{StageNote}

-- how many maps a stage has
abbrev pub maps_of : StageNote → ℕ
maps_of note = part_count note.body

abbrev pub counts_of : List StageNote → List ℕ
counts_of notes = map maps_of notes

-- a need of the board; a stage without a count has no maps
abbrev pub need_with : List ℕ → reads.Need → Need
need_with counts (reads.some_maps s m0 m1) = record { stage = record { 0 = s }; m0 = m0; m1 = m1 }
need_with counts (reads.all_maps s) = record { stage = record { 0 = s }; m0 = 0; m1 = slice_index_or counts s 0 }

abbrev pub sample_reads : List ℕ → Target → List Need
sample_reads counts to = map (need_with counts) (sample_needs to)

-- what a part of a plan reads, what all its parts do, and which of both a join reads of a side
abbrev pub part_reads : List ℕ → Plan → ℕ → List Need
part_reads counts plan k = map (need_with counts) (needs plan k)

abbrev pub all_reads : List ℕ → Plan → List Need
all_reads counts plan = map (need_with counts) (all_needs plan (needs plan))

abbrev pub side_reads : Bool → List ℕ → Plan → ℕ → List Need
side_reads whole counts plan k = cond whole (all_reads counts plan) (part_reads counts plan k)

-- whether a part of a join reads the whole of its left side, and of its right one
abbrev pub takes_left : JoinWay → Bool
takes_left way.SortMerge = false
takes_left (way.ShuffledHash side) = false
takes_left (way.Broadcast Left) = true
takes_left (way.Broadcast Right) = false
takes_left way.NestedLoop = true

abbrev pub takes_right : JoinWay → Bool
takes_right way.SortMerge = false
takes_right (way.ShuffledHash side) = false
takes_right (way.Broadcast Left) = false
takes_right (way.Broadcast Right) = true
takes_right way.NestedLoop = true

-- what a task of a stage reads
abbrev pub task_reads : List ℕ → StageKind → Plan → ℕ → List Need
task_reads counts kind body k = map (need_with counts) (task_needs kind body k)
