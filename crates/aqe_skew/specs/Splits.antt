-- The parts of a skewed partition: runs of maps, of about the target's size.
use Rattle.std.specs.Prelude.{ℕ, ◌+◌, ◌*◌, ◌≡◌, Bool, ◌||◌, cond, List, [], ◌∷◌, map, take, nat_lt}
use Rattle.aqe_coalesce.specs.Coalesced.{Group, Coalesced, size_of}

-- a part: the map at which it begins, and its size
abbrev pub Part : Type 0
Part = ℕ × ℕ

-- Two neighbours go together: their sum is below six fifths of the target, or one of them is below a fifth of it.
abbrev pub go_together : ℕ → ℕ → ℕ → Bool
go_together target a b = nat_lt (5 * (a + b)) (6 * target) || (nat_lt (5 * a) target || nat_lt (5 * b) target)

-- Small parts merged from the left. A part takes its next one where they go together, and asks again as the larger part that it is
-- then; else it stays, and the next one asks.
abbrev pub merged : ℕ → Part → List Part → List Part
merged target part [] = part ∷ []
merged target part (next ∷ rest) =
    cond (go_together target part.1 next.1) (merged target (part.0, part.1 + next.1) rest) (part ∷ merged target next rest)

abbrev pub merged_all : ℕ → List Part → List Part
merged_all target [] = []
merged_all target (part ∷ rest) = merged target part rest

-- a partition is read in so many parts at most
abbrev pub part_limit : ℕ
part_limit = 32

-- closed groups of maps as parts; where the parts begin, once small ones are merged and those behind the last that is allowed are joined into it
abbrev pub parts_of : List ℕ → List Group → List Part
parts_of sizes groups = map (λ group. (group.0, size_of sizes group)) groups

abbrev pub starts_of : ℕ → List Part → List ℕ
starts_of target parts = take part_limit (map (λ part. part.0) (merged_all target parts))

-- Where the parts of a partition begin: its maps are coalesced to the target, and small groups are merged.
pub record Split (sizes : List ℕ) (target : ℕ) (starts : List ℕ) : Type 0 where
  pub groups : List Group
  pub closed : Coalesced sizes target groups
  pub merges : starts ≡ starts_of target (parts_of sizes groups)
