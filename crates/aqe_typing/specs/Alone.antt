-- Whether an expression is no more than a column, level by level.
use Rattle.std.specs.Prelude.{Bool, true, false}
use Rattle.aqe_trees.specs.declared.expression.OrTree.{OrTree}
use Rattle.aqe_trees.specs.declared.expression.AndTree.{AndTree}
use Rattle.aqe_trees.specs.declared.expression.NotTree.{NotTree}
use Rattle.aqe_trees.specs.declared.expression.PredicateTree.{PredicateTree}
use Rattle.aqe_trees.specs.declared.expression.ComparisonTree.{ComparisonTree}
use Rattle.aqe_trees.specs.declared.expression.SumTree.{SumTree}
use Rattle.aqe_trees.specs.declared.expression.ProductTree.{ProductTree}
use Rattle.aqe_trees.specs.declared.expression.SignTree.{SignTree}
use Rattle.aqe_trees.specs.declared.expression.PrimaryTree.{PrimaryTree}
use Rattle.aqe_rules.specs.Looks.{Alone, a_column, alone}
use Rattle.aqe_rules.specs.Trees.{made_of, made_of_and, made_of_not, made_of_predicate, made_of_comparison, made_of_sum, made_of_product, made_of_sign, made_of_primary}

abbrev pub is_a_column : Alone → Bool
is_a_column a_column = true
is_a_column other = false

-- the trees of each level
unfoldable pub is_column_of_or : OrTree → Bool
is_column_of_or tree = is_a_column (made_of alone tree)

unfoldable pub is_column_of_and : AndTree → Bool
is_column_of_and tree = is_a_column (made_of_and alone tree)

unfoldable pub is_column_of_not : NotTree → Bool
is_column_of_not tree = is_a_column (made_of_not alone tree)

unfoldable pub is_column_of_predicate : PredicateTree → Bool
is_column_of_predicate tree = is_a_column (made_of_predicate alone tree)

unfoldable pub is_column_of_comparison : ComparisonTree → Bool
is_column_of_comparison tree = is_a_column (made_of_comparison alone tree)

unfoldable pub is_column_of_sum : SumTree → Bool
is_column_of_sum tree = is_a_column (made_of_sum alone tree)

unfoldable pub is_column_of_product : ProductTree → Bool
is_column_of_product tree = is_a_column (made_of_product alone tree)

unfoldable pub is_column_of_sign : SignTree → Bool
is_column_of_sign tree = is_a_column (made_of_sign alone tree)

unfoldable pub is_column_of_primary : PrimaryTree → Bool
is_column_of_primary tree = is_a_column (made_of_primary alone tree)
