-- Places in a select list whose stars are spread out, counted from 0.
use Rattle.std.specs.Prelude.{◌≡◌, ℕ, zero, suc, ◌+◌, Bool, true, false, cond, List, [], ◌∷◌, flat_map, length, Option, Some, None, slice_get, Ok, Err}
use Rattle.aqe_trees.specs.declared.query.ItemTree.{ItemTree}
use Rattle.aqe_trees.specs.declared.query.ItemTree.TheVariants as tree
use Rattle.aqe_rules.specs.declared.names.Named.{Named}
use Rattle.aqe_rules.specs.declared.typed.Typed.{Typed}
use Rattle.aqe_rules.specs.Expressions.{read}
use Rattle.aqe_rules.specs.Outcomes.{Check, Outcome}
use Rattle.aqe_rules.specs.Readings.{is_of}
use Rattle.aqe_rules.specs.Sources.{over}
use Rattle.aqe_grouping.specs.declared.select_list.Landing.{Landing}
use Rattle.aqe_grouping.specs.declared.select_list.Landing.TheVariants as landing

-- whether a column is one of those that an item stands for; an expression stands for none
abbrev pub is_shown : ItemTree → Named → Bool
is_shown tree.All column = true
is_shown (tree.AllOf name) column = is_of name column
is_shown (tree.One value alias) column = false

-- The values of a column where an item shows it, of all columns that it shows, of the item itself, and of a whole list.
abbrev pub shown_value : ItemTree → Named → List (Outcome Typed)
shown_value item column = cond (is_shown item column) (Ok column.value ∷ []) []

abbrev pub shown_values : ItemTree → List Named → List (Outcome Typed)
shown_values item columns = flat_map (shown_value item) columns

abbrev pub item_values : List Named → ItemTree → List (Outcome Typed)
item_values columns tree.All = shown_values tree.All columns
item_values columns (tree.AllOf name) = shown_values (tree.AllOf name) columns
item_values columns (tree.One value alias) = (read value (over columns)).value ∷ []

abbrev pub list_values : List Named → List ItemTree → List (Outcome Typed)
list_values columns list = flat_map (item_values columns) list

-- what the code finds at a place among values, or how far the place is behind all of them
abbrev pub IsAt : List Named → List (Outcome Typed) → ℕ → Landing → Type 0
IsAt columns all place (landing.Column column) = slice_get all place ≡ Some (Ok column.now.value)
IsAt columns all place (landing.Expression value) = slice_get all place ≡ Some (read value.now (over columns)).value
IsAt columns all place (landing.Behind left) = place ≡ length all + left

-- what a place has; this check fails where there is nothing
abbrev pub taken : Option (Outcome Typed) → Check → Outcome Typed
taken (Some outcome) check = outcome
taken None check = Err check

-- a position counts from 1, and none is negative
abbrev pub from_0 : Bool → ℕ → Option ℕ
from_0 true n = None
from_0 false zero = None
from_0 false (suc n) = Some n
