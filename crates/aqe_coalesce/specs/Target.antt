-- The size that a group of partitions is to come to.
use Rattle.std.specs.Prelude.{ℕ, min, max}
use Rattle.std.specs.Int.{div_ceil}

-- The share of the total that falls to each of n tasks, rounded up, but no more than the advisory size, and no less than the least.
abbrev pub target_of : ℕ → ℕ → ℕ → ℕ → ℕ
target_of total n advisory minimum = max minimum (min advisory (div_ceil total n))
