-- Which partitions are skewed, and the size to which they are cut.
use Rattle.std.specs.Prelude.{ℕ, ◌+◌, ◌-◌, ◌*◌, ◌/◌, ◌%◌, ◌==◌, max, Bool, ◌&&◌, not, cond, List, [], ◌∷◌, length, sum, filter, nat_lt, nat_le, slice_index}
use Rattle.aqe_skew.specs.declared.rule.SkewRule.{SkewRule}

-- sizes in rising order
abbrev pub put_in : ℕ → List ℕ → List ℕ
put_in x [] = x ∷ []
put_in x (y ∷ ys) = cond (nat_le x y) (x ∷ y ∷ ys) (y ∷ put_in x ys)

abbrev pub rising : List ℕ → List ℕ
rising [] = []
rising (x ∷ xs) = put_in x (rising xs)

-- the middle of sizes in rising order; of an even number of them half the sum of the middle two, rounded down
abbrev pub middle : List ℕ → ℕ
middle sorted =
    let half : ℕ = length sorted / 2 in
    cond (length sorted % 2 == 1) (slice_index sorted half) ((slice_index sorted (half - 1) + slice_index sorted half) / 2)

-- the median of sizes is their middle, and 1 at least
abbrev pub median : List ℕ → ℕ
median sizes = max 1 (middle (rising sizes))

-- a size is skewed: it is above so many times the median, in thousandths, and above the threshold
abbrev pub is_skewed : ℕ → ℕ → SkewRule → Bool
is_skewed size median rule = nat_lt (rule.factor_thousandths * median) (1000 * size) && nat_lt rule.threshold size

-- the sizes that are not skewed
abbrev pub even_sizes : List ℕ → SkewRule → List ℕ
even_sizes sizes rule = filter (λ size. not (is_skewed size (median sizes) rule)) sizes

-- the average rounded down, of no sizes 0
abbrev pub average : List ℕ → ℕ
average sizes = cond (length sizes == 0) 0 (sum sizes / length sizes)

-- skewed partitions are cut to the average of the others, or to the advisory size where that is larger or all are skewed
abbrev pub split_target : List ℕ → SkewRule → ℕ
split_target sizes rule = max rule.advisory (average (even_sizes sizes rule))
