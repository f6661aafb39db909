-- The order of rows under sort keys.
use Rattle.std.specs.Prelude.{Bool, List, map}
use Rattle.std.specs.declared.cmp.Ordering.{Ordering}
use Rattle.aqe_values.specs.declared.value.Value.{Value}
use Rattle.aqe_values.specs.declared.sort_way.SortWay.{SortWay}
use Rattle.aqe_values.specs.KeyOrder.{key_order, key_before}
use Rattle.aqe_expr.specs.Meaning.{val}
use Rattle.aqe_logical.specs.declared.plan.SortKey.{SortKey}

-- the ways of sort keys, and the key row of a row: the values of the keys, in their order
abbrev pub ways_of : List SortKey → List SortWay
ways_of keys = map (λ key. key.way) keys

abbrev pub key_of : List SortKey → List Value → List Value
key_of keys row = map (λ key. val row key.expr) keys

-- rows compare as their key rows do: the first key in which they differ decides, by its way
abbrev pub row_order : List SortKey → List Value → List Value → Ordering
row_order keys x y = key_order (ways_of keys) (key_of keys x) (key_of keys y)

-- whether a row comes strictly before another
abbrev pub before : List SortKey → List Value → List Value → Bool
before keys x y = key_before (ways_of keys) (key_of keys) x y
