-- Answers that were worked out by hand from the rules: a check of the definitions.
use Rattle.std.proofs.Common.{◌≡◌, ℕ, ℤ, pos, negsuc, true, false, List, [], ◌∷◌, Option, Some, None, refl}
use Rattle.aqe_base.specs.declared.join_kind.JoinKind.TheVariants as kind
use Rattle.aqe_base.specs.declared.join_kind.Side.TheVariants.{Left, Right}
use Rattle.aqe_join_switch.specs.declared.sizes.SizeSource.TheVariants as source
use Rattle.aqe_join_switch.specs.declared.sizes.JoinRule.{JoinRule}
use Rattle.aqe_join_switch.specs.declared.sizes.JoinChoice.TheVariants.{Broadcast, ShuffledHash, SortMerge}
use Rattle.aqe_join_switch.specs.Choice.{SideData, many_empty, choice}

-- 1000 is below 1200, and not below 1000
some_of_six : many_empty (10 ∷ 0 ∷ 0 ∷ 0 ∷ 0 ∷ 0 ∷ []) 200 ≡ true
some_of_six = refl

some_of_five : many_empty (10 ∷ 0 ∷ 0 ∷ 0 ∷ 0 ∷ []) 200 ≡ false
some_of_five = refl

-- where nothing is filled, nothing is called empty
none_filled : many_empty (0 ∷ 0 ∷ []) 1000 ≡ false
none_filled = refl

abbrev rule : ℤ → ℤ → ℕ → ℕ → JoinRule
rule first adaptive local_map advisory =
    record { first_threshold = first; adaptive_threshold = adaptive; ratio_thousandths = 200; local_map = local_map; advisory = advisory }

abbrev measured : List ℕ → ℕ → Option SideData
measured parts total = Some (record { source = source.Shuffle; total = total; parts = parts })

abbrev estimated : ℕ → Option SideData
estimated total = Some (record { source = source.Estimate; total = total; parts = [] })

abbrev held : Option SideData
held = Some (record { source = source.Broadcast; total = 7; parts = [] })

abbrev minus_one : ℤ
minus_one = negsuc 0

-- two sides that are as large: the right
hashed_right : choice kind.Inner (measured (5 ∷ 5 ∷ []) 10) (measured (5 ∷ 5 ∷ []) 10) (rule minus_one minus_one 10 10) ≡ ShuffledHash Right
hashed_right = refl

-- the local threshold is below the advisory size
merged : choice kind.Inner (measured (5 ∷ 5 ∷ []) 10) (measured (5 ∷ 5 ∷ []) 10) (rule minus_one minus_one 9 10) ≡ SortMerge
merged = refl

-- only the left is small enough by the measured sizes
switched_left : choice kind.Inner (measured (10 ∷ []) 10) (measured (30 ∷ []) 30) (rule minus_one (pos 10) 0 64) ≡ Broadcast Left
switched_left = refl

not_switched : choice kind.Inner (measured (10 ∷ []) 10) (measured (30 ∷ []) 30) (rule minus_one (pos 9) 0 64) ≡ SortMerge
not_switched = refl

-- both fit: the smaller
left_is_smaller : choice kind.Inner (measured (10 ∷ []) 10) (measured (30 ∷ []) 30) (rule minus_one (pos 30) 0 64) ≡ Broadcast Left
left_is_smaller = refl

right_is_smaller : choice kind.Inner (estimated 41) (estimated 24) (rule (pos 100) minus_one 0 64) ≡ Broadcast Right
right_is_smaller = refl

-- a kept side is not broadcast, however small
kept_left : choice kind.LeftOuter (estimated 4) (estimated 2000) (rule (pos 100) minus_one 0 64) ≡ SortMerge
kept_left = refl

both_kept : choice kind.FullOuter (estimated 4) (estimated 4) (rule (pos 100) minus_one 0 64) ≡ SortMerge
both_kept = refl

-- what is held as a broadcast goes first, the right before the left, whatever the thresholds
held_left : choice kind.Inner held (estimated 4) (rule (pos 100) minus_one 0 64) ≡ Broadcast Left
held_left = refl

held_right : choice kind.Inner held held (rule minus_one minus_one 0 64) ≡ Broadcast Right
held_right = refl

-- nothing is known of the right
right_unknown : choice kind.Inner (estimated 100) None (rule (pos 100) minus_one 0 64) ≡ Broadcast Left
right_unknown = refl

-- many of the measured partitions are empty
mostly_empty : choice kind.Inner (measured (10 ∷ 0 ∷ 0 ∷ 0 ∷ 0 ∷ 0 ∷ []) 10) None (rule minus_one (pos 100) 0 64) ≡ SortMerge
mostly_empty = refl
