-- The order of key rows under the ways of a sort, and lists of rows in such an order.
use Rattle.std.specs.Prelude.{Bool, false, List, [], ◌∷◌, All, ◌≡◌, ◌↔◌}
use Rattle.std.specs.List.Sorted.{IsSortedBy}
use Rattle.std.specs.Cmp.{IsTotalOrder}
use Rattle.std.specs.Ordering.{ordering_then, is_lt}
use Rattle.std.specs.declared.cmp.Ordering.{Ordering}
use Rattle.std.specs.declared.cmp.Ordering.TheVariants.{Equal}
use Rattle.aqe_values.specs.declared.value.Value.{Value}
use Rattle.aqe_values.specs.declared.value.Value.TheVariants.{Null}
use Rattle.aqe_values.specs.declared.sort_way.SortWay.{SortWay}
use Rattle.aqe_values.specs.Order.{way_cmp}

-- the first column of a key row, and the columns behind it: a row that ends goes on in NULLs
abbrev pub first_column : List Value → Value
first_column [] = Null
first_column (value ∷ row) = value

abbrev pub other_columns : List Value → List Value
other_columns [] = []
other_columns (value ∷ row) = row

-- The order of two key rows: of the columns that have a way, the first in which they differ decides, by its way.
abbrev pub key_order : List SortWay → List Value → List Value → Ordering
key_order [] a b = Equal
key_order (way ∷ ways) a b =
    ordering_then (way_cmp way (first_column a) (first_column b)) (key_order ways (other_columns a) (other_columns b))

-- whether a row comes strictly before another, where each row has this key row
abbrev pub key_before : List SortWay → (List Value → List Value) → List Value → List Value → Bool
key_before ways key x y = is_lt (key_order ways (key x) (key y))

-- no later row comes strictly before an earlier one
abbrev pub InOrder : (List Value → List Value → Bool) → List (List Value) → Type 0
InOrder less [] = Unit {0}
InOrder less (x ∷ xs) = All (λ y. less y x ≡ false) xs × InOrder less xs

-- the order of key rows under any ways is total: any two rows compare, and the answers fit together
abbrev pub KeyRowsTotallyOrdered : Type 0
KeyRowsTotallyOrdered = (ways : List SortWay) → IsTotalOrder (key_order ways)

-- where no row comes strictly before its neighbour, no later row comes strictly before an earlier one, and back
abbrev pub SortedIsInOrder : Type 0
SortedIsInOrder = (ways : List SortWay) (key : List Value → List Value) (rows : List (List Value)) →
    IsSortedBy (key_before ways key) rows ↔ InOrder (key_before ways key) rows
