-- Samples of keys, and the bounds of ranges.
use Rattle.std.specs.Prelude.{ℕ, ◌*◌, ◌-◌, ◌/◌, min, Bool, List, [], ◌∷◌, map, length, slice_index_or}
use Rattle.std.specs.List.{range_with_len}
use Rattle.aqe_logical.specs.Answers.{Row}
use Rattle.aqe_places.specs.Sorting.{stable_sort}

-- at most so many keys are sampled of one list
abbrev pub sample_size : ℕ
sample_size = 20

-- of c keys s, as many as there are but 20 at most: those at the places i * c / s, for i below s
abbrev pub evenly : ℕ → List Row → List Row
evenly s keys = map (λ i. slice_index_or keys (i * length keys / s) []) (range_with_len 0 s)

abbrev pub sample : List Row → List Row
sample keys = evenly (min sample_size (length keys)) keys

-- the bounds of n ranges, from sorted samples: bound i, for i from 1 up to n - 1, is the one at i * k / n of k samples; none without samples
abbrev pub bounds_of : ℕ → List Row → List Row
bounds_of n [] = []
bounds_of n (sample ∷ samples) = map (λ i. slice_index_or (sample ∷ samples) (i * length (sample ∷ samples) / n) []) (range_with_len 1 (n - 1))

abbrev pub bounds : (Row → Row → Bool) → ℕ → List Row → List Row
bounds less n samples = bounds_of n (stable_sort less samples)
