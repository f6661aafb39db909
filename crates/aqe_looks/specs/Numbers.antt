-- The number that an expression is, where it is no more than one, level by level. Parentheses do not count.
use Rattle.std.specs.Prelude.{ℕ, Bool, Option, Some, None}
use Rattle.aqe_trees.specs.declared.expression.OrTree.{OrTree}
use Rattle.aqe_trees.specs.declared.expression.AndTree.{AndTree}
use Rattle.aqe_trees.specs.declared.expression.NotTree.{NotTree}
use Rattle.aqe_trees.specs.declared.expression.PredicateTree.{PredicateTree}
use Rattle.aqe_trees.specs.declared.expression.ComparisonTree.{ComparisonTree}
use Rattle.aqe_trees.specs.declared.expression.SumTree.{SumTree}
use Rattle.aqe_trees.specs.declared.expression.ProductTree.{ProductTree}
use Rattle.aqe_trees.specs.declared.expression.SignTree.{SignTree}
use Rattle.aqe_trees.specs.declared.expression.PrimaryTree.{PrimaryTree}
use Rattle.aqe_rules.specs.Looks.{Alone, a_number, alone}
use Rattle.aqe_rules.specs.Trees.{made_of, made_of_and, made_of_not, made_of_predicate, made_of_comparison, made_of_sum, made_of_product, made_of_sign, made_of_primary}

-- whether it is negative, and its digits' value
abbrev pub number_of : Alone → Option (Bool × ℕ)
number_of (a_number negative n) = Some (negative, n)
number_of other = None

-- the trees of each level
unfoldable pub number_of_or : OrTree → Option (Bool × ℕ)
number_of_or tree = number_of (made_of alone tree)

unfoldable pub number_of_and : AndTree → Option (Bool × ℕ)
number_of_and tree = number_of (made_of_and alone tree)

unfoldable pub number_of_not : NotTree → Option (Bool × ℕ)
number_of_not tree = number_of (made_of_not alone tree)

unfoldable pub number_of_predicate : PredicateTree → Option (Bool × ℕ)
number_of_predicate tree = number_of (made_of_predicate alone tree)

unfoldable pub number_of_comparison : ComparisonTree → Option (Bool × ℕ)
number_of_comparison tree = number_of (made_of_comparison alone tree)

unfoldable pub number_of_sum : SumTree → Option (Bool × ℕ)
number_of_sum tree = number_of (made_of_sum alone tree)

unfoldable pub number_of_product : ProductTree → Option (Bool × ℕ)
number_of_product tree = number_of (made_of_product alone tree)

unfoldable pub number_of_sign : SignTree → Option (Bool × ℕ)
number_of_sign tree = number_of (made_of_sign alone tree)

unfoldable pub number_of_primary : PrimaryTree → Option (Bool × ℕ)
number_of_primary tree = number_of (made_of_primary alone tree)
