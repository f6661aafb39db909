-- What the items of a select list stand for where no star is refused.
use Rattle.std.specs.Prelude.{List, [], ◌∷◌, map, flat_map, filter}
use Rattle.aqe_trees.specs.declared.query.ItemTree.{ItemTree}
use Rattle.aqe_trees.specs.declared.query.ItemTree.TheVariants as tree
use Rattle.aqe_rules.specs.declared.names.Named.{Named}
use Rattle.aqe_rules.specs.Readings.{is_of}
use Rattle.aqe_rules.specs.Selects.{Spread, column, expression}

-- `*` stands for all columns of FROM, `t.*` for those of the items named t, and an expression for itself
abbrev pub spread_of : List Named → ItemTree → List Spread
spread_of columns tree.All = map column columns
spread_of columns (tree.AllOf name) = map column (filter (is_of name) columns)
spread_of columns (tree.One value alias) = expression value alias ∷ []

abbrev pub spreads_of : List Named → List ItemTree → List Spread
spreads_of columns list = flat_map (spread_of columns) list
