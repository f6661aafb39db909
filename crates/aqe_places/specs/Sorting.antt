-- Rows in order.
use Rattle.std.specs.Prelude.{Bool, cond, List, [], ◌∷◌}
use Rattle.aqe_logical.specs.Answers.{Row}

-- a row put into a list: behind those that come before it, and before all others
abbrev pub put_in : (Row → Row → Bool) → Row → List Row → List Row
put_in less x [] = x ∷ []
put_in less x (y ∷ ys) = cond (less y x) (y ∷ put_in less x ys) (x ∷ y ∷ ys)

-- rows sorted by a test of which comes strictly before another; rows that tie stay in their order
abbrev pub stable_sort : (Row → Row → Bool) → List Row → List Row
stable_sort less [] = []
stable_sort less (x ∷ xs) = put_in less x (stable_sort less xs)
