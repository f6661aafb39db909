-- Small histories written out by hand: a check of the definitions.
use Rattle.std.proofs.Common.{◌≡◌, ℕ, true, false, List, [], ◌∷◌, ◌++◌, refl, Some, None}
use Rattle.aqe_base.specs.declared.stage_id.StageId.{StageId}
use Rattle.aqe_base.specs.declared.event.Event.TheVariants.{Ended, Failed, Lost, Fetch}
use Rattle.aqe_scheduler.specs.declared.fate.Fate.TheVariants.{Counted, Late, Unknown, Repeat, Starved, FailCounted, FetchCounted}
use Rattle.aqe_scheduler.specs.declared.fate.Fate.TheVariants as fate
use Rattle.aqe_scheduler.specs.declared.need.StageKindTag.TheVariants.{Shuffle, Result}
use Rattle.aqe_scheduler.specs.declared.need.Need.{Need}
use Rattle.aqe_scheduler.specs.History.{Entry, Adds, Marks, Happens}
use Rattle.aqe_scheduler.specs.Looks.{available, done, whole, fails, streak}
use Rattle.aqe_scheduler.specs.Fates.{noted, fates}
use Rattle.aqe_scheduler.specs.Rest.{rest_of, rest_ending}
use Rattle.aqe_scheduler.specs.Positions.{upto}
use Rattle.aqe_scheduler.specs.Bounds.{runs, takings}

abbrev id : ℕ → StageId
id n = record { 0 = n }

abbrev ok : ℕ → ℕ → ℕ → Entry
ok s t e = Happens (Ended (id s) (record { 0 = t }) (record { 0 = e }))

abbrev failing : ℕ → ℕ → ℕ → Entry
failing s t e = Happens (Failed (id s) (record { 0 = t }) (record { 0 = e }))

abbrev lost : ℕ → Entry
lost e = Happens (Lost (record { 0 = e }))

abbrev fetch : ℕ → ℕ → ℕ → ℕ → ℕ → Entry
fetch s t e p m = Happens (Fetch (id s) (record { 0 = t }) (record { 0 = e }) (id p) (record { 0 = m }))

abbrev rest : ℕ → ℕ → Entry
rest s t = Happens (rest_ending (s, t))

abbrev both_maps : ℕ → List Need
both_maps s = record { stage = id s; m0 = 0; m1 = 2 } ∷ []

-- a shuffle of two tasks that read nothing, and a result of two tasks that read both its maps; both are needed
abbrev shuffled : List Entry
shuffled =
    Adds (record { kind = Shuffle; reads = [] ∷ [] ∷ [] }) ∷ Marks 0 true ∷
    Adds (record { kind = Result; reads = both_maps 0 ∷ both_maps 0 ∷ [] }) ∷ Marks 1 true ∷ []

-- an output is lost with its executor; the second task of the result finds it missing, and the rest runs it again
abbrev lost_output : List Entry
lost_output = shuffled ++ ok 0 0 0 ∷ ok 0 1 1 ∷ ok 1 0 2 ∷ lost 0 ∷ ok 1 1 2 ∷ []

lost_output_fates : fates (noted lost_output) ≡ Counted ∷ Counted ∷ Counted ∷ fate.Lost ∷ Starved ∷ []
lost_output_fates = refl

lost_output_rest : rest_of (noted lost_output) ≡ Some (0, 0)
lost_output_rest = refl

lost_output_then : rest_of (noted (lost_output ++ rest 0 0 ∷ [])) ≡ Some (1, 1)
lost_output_then = refl

lost_output_all : fates (noted (lost_output ++ rest 0 0 ∷ rest 1 1 ∷ [])) ≡ Counted ∷ Counted ∷ Counted ∷ fate.Lost ∷ Starved ∷ Counted ∷ Counted ∷ []
lost_output_all = refl

lost_output_end : rest_of (noted (lost_output ++ rest 0 0 ∷ rest 1 1 ∷ [])) ≡ None
lost_output_end = refl

-- the first task ran twice, after one loss
ran_twice : runs (noted (lost_output ++ rest 0 0 ∷ rest 1 1 ∷ [])) 0 0 ≡ 2
ran_twice = refl

one_taking : takings (noted (lost_output ++ rest 0 0 ∷ rest 1 1 ∷ [])) ≡ 1
one_taking = refl

-- the shuffle is whole at position 2 and not at position 4; the result is whole at position 7, and not at 6
whole_at_2 : whole (upto 2 (noted lost_output)) 0 ≡ true
whole_at_2 = refl

not_at_1 : whole (upto 1 (noted lost_output)) 0 ≡ false
not_at_1 = refl

lost_at_4 : whole (upto 4 (noted lost_output)) 0 ≡ false
lost_at_4 = refl

whole_at_7 : whole (upto 7 (noted (lost_output ++ rest 0 0 ∷ rest 1 1 ∷ []))) 1 ≡ true
whole_at_7 = refl

not_at_6 : whole (upto 6 (noted (lost_output ++ rest 0 0 ∷ rest 1 1 ∷ []))) 1 ≡ false
not_at_6 = refl

-- a stage that is not born is not whole
unborn : whole (noted shuffled) 2 ≡ false
unborn = refl

-- the rest at positions
rest_at_0 : rest_of (upto 0 (noted lost_output)) ≡ Some (0, 0)
rest_at_0 = refl

rest_at_2 : rest_of (upto 2 (noted lost_output)) ≡ Some (1, 0)
rest_at_2 = refl

-- three events alone leave the second task of the result
stopped_short : rest_of (noted (shuffled ++ ok 0 0 0 ∷ ok 0 1 1 ∷ ok 1 0 2 ∷ [])) ≡ Some (1, 1)
stopped_short = refl

-- a query of one task that fails four times
abbrev one_task : List Entry
one_task = Adds (record { kind = Result; reads = [] ∷ [] }) ∷ Marks 0 true ∷ []

fails_thrice : fails (noted (one_task ++ failing 0 0 1 ∷ failing 0 0 1 ∷ failing 0 0 1 ∷ ok 0 0 1 ∷ [])) 0 0 ≡ 3
fails_thrice = refl

fails_and_ends : fates (noted (one_task ++ failing 0 0 1 ∷ failing 0 0 1 ∷ failing 0 0 1 ∷ ok 0 0 1 ∷ [])) ≡ FailCounted ∷ FailCounted ∷ FailCounted ∷ Counted ∷ []
fails_and_ends = refl

fails_four_times : fails (noted (one_task ++ failing 0 0 1 ∷ failing 0 0 1 ∷ failing 0 0 1 ∷ failing 0 0 1 ∷ [])) 0 0 ≡ 4
fails_four_times = refl

-- a join whose left side is empty: after the first stage the second one is not needed, and the result is stage 2
abbrev emptied_join : List Entry
emptied_join =
    Adds (record { kind = Shuffle; reads = [] ∷ [] }) ∷ Adds (record { kind = Shuffle; reads = [] ∷ [] }) ∷ Marks 0 true ∷ Marks 1 true ∷
    ok 0 0 1 ∷ Marks 0 false ∷ Marks 1 false ∷ Adds (record { kind = Result; reads = [] ∷ [] }) ∷ Marks 2 true ∷ ok 1 0 1 ∷ []

emptied_fates : fates (noted emptied_join) ≡ Counted ∷ Late ∷ []
emptied_fates = refl

emptied_rest : rest_of (noted emptied_join) ≡ Some (2, 0)
emptied_rest = refl

emptied_end : fates (noted (emptied_join ++ rest 2 0 ∷ [])) ≡ Counted ∷ Late ∷ Counted ∷ []
emptied_end = refl

-- a failed fetch counts against the stage that reads, and takes the output away; a counted ending ends the streak
abbrev fetched : List Entry
fetched = shuffled ++ ok 0 0 0 ∷ ok 0 1 1 ∷ fetch 1 0 2 0 1 ∷ []

fetched_fates : fates (noted fetched) ≡ Counted ∷ Counted ∷ FetchCounted ∷ []
fetched_fates = refl

fetched_streak : streak (noted fetched) 1 ≡ 1
fetched_streak = refl

no_streak : streak (noted fetched) 0 ≡ 0
no_streak = refl

no_failure : fails (noted fetched) 1 0 ≡ 0
no_failure = refl

fetched_rest : rest_of (noted fetched) ≡ Some (0, 1)
fetched_rest = refl

streak_over : streak (noted (fetched ++ rest 0 1 ∷ rest 1 0 ∷ [])) 1 ≡ 0
streak_over = refl

ran_again : runs (noted (fetched ++ rest 0 1 ∷ rest 1 0 ∷ rest 1 1 ∷ [])) 0 1 ≡ 2
ran_again = refl

-- a fetch of a map that the task does not read, and one of a stage that is no shuffle
strange_map : fates (noted (shuffled ++ ok 0 0 0 ∷ ok 0 1 1 ∷ fetch 1 0 2 0 2 ∷ fetch 1 0 2 1 0 ∷ [])) ≡ Counted ∷ Counted ∷ Unknown ∷ Unknown ∷ []
strange_map = refl

-- an ending that is told twice
told_twice : fates (noted (shuffled ++ ok 0 0 0 ∷ ok 0 0 0 ∷ [])) ≡ Counted ∷ Repeat ∷ []
told_twice = refl

-- a repeat and a stranger among endings, and what the rest ends then
recorded : fates (noted (shuffled ++ ok 0 0 0 ∷ ok 0 0 0 ∷ ok 0 1 1 ∷ ok 9 0 1 ∷ ok 1 0 2 ∷ [])) ≡ Counted ∷ Repeat ∷ Counted ∷ Unknown ∷ Counted ∷ []
recorded = refl

recorded_rest : rest_of (noted (shuffled ++ ok 0 0 0 ∷ ok 0 0 0 ∷ ok 0 1 1 ∷ ok 9 0 1 ∷ ok 1 0 2 ∷ [])) ≡ Some (1, 1)
recorded_rest = refl

-- an output that was made again on another executor outlives the loss of the first one
made_again : available (noted (shuffled ++ ok 0 0 0 ∷ lost 0 ∷ ok 0 0 3 ∷ lost 0 ∷ [])) 0 0 ≡ true
made_again = refl

-- what is no shuffle stays done after a loss
stays_done : done (noted (one_task ++ ok 0 0 5 ∷ lost 5 ∷ [])) 0 0 ≡ true
stays_done = refl
