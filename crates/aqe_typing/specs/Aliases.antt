-- The aliases of a select list that have a name.
use Rattle.std.specs.Prelude.{◌≡◌, ℕ, List, [], ◌∷◌, ◌++◌, cond, Some}
use Rattle.aqe_trees.specs.declared.expression.OrTree.{OrTree}
use Rattle.aqe_trees.specs.declared.query.ItemTree.{ItemTree}
use Rattle.aqe_trees.specs.declared.query.ItemTree.TheVariants as tree
use Rattle.aqe_rules.specs.Readings.{alike}

-- what stands under the alias of an item, where it has the name
abbrev pub under_alias : List ℕ → ItemTree → List OrTree
under_alias name (tree.One value (Some own)) = cond (alike own name) (value ∷ []) []
under_alias name item = []

-- what stands under each alias that has the name
abbrev pub under_aliases : List ℕ → List ItemTree → List OrTree
under_aliases name [] = []
under_aliases name (item ∷ rest) = under_alias name item ++ under_aliases name rest

-- what stands under the first alias that has the name, and the items behind it
abbrev pub IsFirst : List ℕ → List ItemTree → OrTree → List ItemTree → Type 0
IsFirst name list value behind = under_aliases name list ≡ value ∷ under_aliases name behind
