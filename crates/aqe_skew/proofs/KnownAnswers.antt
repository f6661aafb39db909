-- Answers that were worked out by hand from the rules: a check of the definitions.
use Rattle.std.proofs.Common.{◌≡◌, ℕ, true, false, List, [], ◌∷◌, map, refl}
use Rattle.aqe_skew.specs.declared.rule.SkewRule.{SkewRule}
use Rattle.aqe_skew.specs.Skewed.{median, is_skewed, even_sizes, split_target}
use Rattle.aqe_skew.specs.Splits.{starts_of, parts_of}
use Rattle.aqe_base.specs.declared.cells.Rect.{Rect}
use Rattle.aqe_base.specs.declared.join_kind.JoinKind.TheVariants as kind
use Rattle.aqe_base.specs.declared.join_kind.Side.TheVariants.{Right}
use Rattle.aqe_skew.specs.Paired.{SideCells, map_sizes, partition_sizes, both_sizes, may_be_split, rects_at, all_pairs, one_by_one, group_pair}

abbrev rule : ℕ → ℕ → SkewRule
rule threshold advisory = record { factor_thousandths = 5000; threshold = threshold; advisory = advisory }

abbrev sizes : List ℕ
sizes = 100 ∷ 100 ∷ 100 ∷ 2000 ∷ []

the_median : median sizes ≡ 100
the_median = refl

middle_of_three : median (7 ∷ 3 ∷ 5 ∷ []) ≡ 5
middle_of_three = refl

middle_two : median (7 ∷ 2 ∷ 4 ∷ 1 ∷ []) ≡ 3
middle_two = refl

at_least_one : median (0 ∷ 0 ∷ 9 ∷ []) ≡ 1
at_least_one = refl

last_alone : map (λ size. is_skewed size 100 (rule 256 64)) sizes ≡ false ∷ false ∷ false ∷ true ∷ []
last_alone = refl

-- equal is not larger
none : map (λ size. is_skewed size 100 (rule 2000 64)) sizes ≡ false ∷ false ∷ false ∷ false ∷ []
none = refl

others : even_sizes sizes (rule 256 64) ≡ 100 ∷ 100 ∷ 100 ∷ []
others = refl

average_of_others : split_target sizes (rule 256 64) ≡ 100
average_of_others = refl

advisory_is_larger : split_target sizes (rule 256 101) ≡ 101
advisory_is_larger = refl

-- three closed parts, none of which is small
all_large : starts_of 100 (parts_of (500 ∷ 700 ∷ 800 ∷ []) ((0, 1) ∷ (1, 2) ∷ (2, 3) ∷ [])) ≡ 0 ∷ 1 ∷ 2 ∷ []
all_large = refl

-- 115 is below 120
one_small : starts_of 100 (parts_of (100 ∷ 15 ∷ []) ((0, 1) ∷ (1, 2) ∷ [])) ≡ 0 ∷ []
one_small = refl

-- 200 and 90 stay apart, 90 and 19 go together
small_last : starts_of 100 (parts_of (200 ∷ 90 ∷ 19 ∷ []) ((0, 1) ∷ (1, 2) ∷ (2, 3) ∷ [])) ≡ 0 ∷ 1 ∷ []
small_last = refl

-- A table of sizes: one left map with four reducers of 100, two right maps with 50, 50, 50, 1000 each.
abbrev left : SideCells
left = record { maps = 1; reducers = 4; cells = 100 ∷ 100 ∷ 100 ∷ 100 ∷ [] }

abbrev right : SideCells
right = record { maps = 2; reducers = 4; cells = 50 ∷ 50 ∷ 50 ∷ 1000 ∷ 50 ∷ 50 ∷ 50 ∷ 1000 ∷ [] }

left_partitions : partition_sizes left ≡ 100 ∷ 100 ∷ 100 ∷ 100 ∷ []
left_partitions = refl

right_partitions : partition_sizes right ≡ 100 ∷ 100 ∷ 100 ∷ 2000 ∷ []
right_partitions = refl

right_maps : map_sizes right 3 ≡ 1000 ∷ 1000 ∷ []
right_maps = refl

summed : both_sizes kind.Inner left right (rule 256 64) 0 3 ≡ 200 ∷ 200 ∷ 200 ∷ []
summed = refl

-- the last reducer of the right may be split where the kind does not keep the right whole
may_for_inner : map (may_be_split kind.Inner Right right (rule 256 64)) (0 ∷ 1 ∷ 2 ∷ 3 ∷ []) ≡ false ∷ false ∷ false ∷ true ∷ []
may_for_inner = refl

not_for_outer : map (may_be_split kind.LeftOuter Right right (rule 256 64)) (0 ∷ 1 ∷ 2 ∷ 3 ∷ []) ≡ false ∷ false ∷ false ∷ false ∷ []
not_for_outer = refl

abbrev rect : ℕ → ℕ → ℕ → ℕ → Rect
rect m0 m1 r0 r1 = record { m0 = m0; m1 = m1; r0 = r0; r1 = r1 }

-- the left whole with each of the two right maps
split_pairs : all_pairs (rects_at 1 3 (0 ∷ [])) (rects_at 2 3 (0 ∷ 1 ∷ [])) ≡ (rect 0 1 3 4, rect 0 1 3 4) ∷ (rect 0 1 3 4, rect 1 2 3 4) ∷ []
split_pairs = refl

grouped_pairs : map (group_pair 1 2 0) ((0, 2) ∷ (2, 3) ∷ []) ≡ (rect 0 1 0 2, rect 0 2 0 2) ∷ (rect 0 1 2 3, rect 0 2 2 3) ∷ []
grouped_pairs = refl

single_pairs : map (group_pair 1 2 0) (one_by_one 3) ≡ (rect 0 1 0 1, rect 0 2 0 1) ∷ (rect 0 1 1 2, rect 0 2 1 2) ∷ (rect 0 1 2 3, rect 0 2 2 3) ∷ []
single_pairs = refl
