-- What it means that partitions are coalesced into groups: a test of the finished list of groups.
use Rattle.std.specs.Prelude.{ℕ, ◌+◌, ◌-◌, ◌≡◌, ◌<◌, ◌≤◌, ◌⊎◌, List, [], ◌∷◌, length, take, drop, sum, All}

-- a group has the partitions from its first number up to, and without, its second one
abbrev pub Group : Type 0
Group = ℕ × ℕ

-- the sizes of the partitions of a group, and their sum
abbrev pub sizes_in : List ℕ → Group → List ℕ
sizes_in sizes group = take (group.1 - group.0) (drop group.0 sizes)

abbrev pub size_of : List ℕ → Group → ℕ
size_of sizes group = sum (sizes_in sizes group)

-- groups follow one another from a place to an end: the first begins at the place, each further one where the one before
-- it ends, and the last ends at the end
abbrev pub Follow : ℕ → ℕ → List Group → Type 0
Follow a end [] = a ≡ end
Follow a end (group ∷ groups) = (group.0 ≡ a) × Follow group.1 end groups

abbrev pub HasPartitions : Group → Type 0
HasPartitions group = group.0 < group.1

-- a group is one partition, or comes to the target at most
abbrev pub IsWithin : List ℕ → ℕ → Group → Type 0
IsWithin sizes target group = (group.1 ≡ group.0 + 1) ⊎ (size_of sizes group ≤ target)

-- a group with a partition behind it would exceed the target with that one
abbrev pub IsFull : List ℕ → ℕ → Group → Type 0
IsFull sizes target group = group.1 < length sizes → target < size_of sizes (group.0, group.1 + 1)

-- Partitions are coalesced into groups: each partition in order stands in one of them, none is empty, none is too large where it could
-- be smaller, and none but the last could take the next partition. Where there are no partitions there are no groups.
pub record Coalesced (sizes : List ℕ) (target : ℕ) (groups : List Group) : Type 0 where
  pub contiguous : Follow 0 (length sizes) groups
  pub filled : All HasPartitions groups
  pub within : All (IsWithin sizes target) groups
  pub full : All (IsFull sizes target) groups
