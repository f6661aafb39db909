-- The order of key rows by which rows are placed in ranges.
use Rattle.std.specs.Prelude.{ℕ, Bool, List}
use Rattle.aqe_values.specs.KeyOrder.{key_before}
use Rattle.aqe_logical.specs.Answers.{Row}
use Rattle.aqe_logical.specs.Order.{ways_of, key_of}
use Rattle.aqe_logical.specs.declared.plan.SortKey.{SortKey}
use Rattle.aqe_places.specs.Places.{by_range}

-- whether a key row comes strictly before another under the ways of sort keys: it is its own key
abbrev pub key_less : List SortKey → Row → Row → Bool
key_less keys = key_before (ways_of keys) (λ key. key)

-- the place of a row among the ranges of bounds: how many of them come strictly before its key row
abbrev pub range_place : List SortKey → List Row → Row → ℕ
range_place keys bounds = by_range (key_less keys) bounds (key_of keys)
