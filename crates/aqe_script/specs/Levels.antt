-- The nesting of a part of an expression, for the contracts of the private functions that walk over it.
--
-- `or_nesting` of `Nesting.antt` is what is promised; these are the same fold, begun at another level.
use Rattle.std.specs.Prelude.{ℕ}
use Rattle.aqe_trees.specs.declared.expression.AndTree.{AndTree, fold-AndTree}
use Rattle.aqe_trees.specs.declared.expression.NotTree.{NotTree, fold-NotTree}
use Rattle.aqe_trees.specs.declared.expression.PredicateTree.{PredicateTree, fold-PredicateTree}
use Rattle.aqe_trees.specs.declared.expression.Test.{Test, fold-Test}
use Rattle.aqe_trees.specs.declared.expression.ComparisonTree.{ComparisonTree, fold-ComparisonTree}
use Rattle.aqe_trees.specs.declared.expression.SumTree.{SumTree, fold-SumTree}
use Rattle.aqe_trees.specs.declared.expression.ProductTree.{ProductTree, fold-ProductTree}
use Rattle.aqe_trees.specs.declared.expression.SignTree.{SignTree, fold-SignTree}
use Rattle.aqe_trees.specs.declared.expression.PrimaryTree.{PrimaryTree, fold-PrimaryTree}
use Rattle.aqe_trees.specs.declared.expression.Arm.{Arm, fold-Arm}
pub use Rattle.aqe_script.specs.Nesting.{over, deepest, of_maybe, chain_depth, or_nesting}
use Rattle.aqe_script.specs.Nesting.{or_level, and_level, not_level, predicate_level, test_level, comparison_level, sum_level, product_level, sign_level, primary_level, arm_level}

abbrev pub and_nesting : AndTree → ℕ
and_nesting = fold-AndTree ℕ (ℕ → ℕ) ℕ ℕ ℕ ℕ ℕ ℕ ℕ ℕ ℕ primary_level test_level and_level arm_level comparison_level not_level or_level predicate_level product_level sign_level sum_level

abbrev pub not_nesting : NotTree → ℕ
not_nesting = fold-NotTree ℕ (ℕ → ℕ) ℕ ℕ ℕ ℕ ℕ ℕ ℕ ℕ ℕ primary_level test_level and_level arm_level comparison_level not_level or_level predicate_level product_level sign_level sum_level

abbrev pub predicate_nesting : PredicateTree → ℕ
predicate_nesting = fold-PredicateTree ℕ (ℕ → ℕ) ℕ ℕ ℕ ℕ ℕ ℕ ℕ ℕ ℕ primary_level test_level and_level arm_level comparison_level not_level or_level predicate_level product_level sign_level sum_level

abbrev pub test_nesting : Test → ℕ → ℕ
test_nesting = fold-Test ℕ (ℕ → ℕ) ℕ ℕ ℕ ℕ ℕ ℕ ℕ ℕ ℕ primary_level test_level and_level arm_level comparison_level not_level or_level predicate_level product_level sign_level sum_level

abbrev pub comparison_nesting : ComparisonTree → ℕ
comparison_nesting = fold-ComparisonTree ℕ (ℕ → ℕ) ℕ ℕ ℕ ℕ ℕ ℕ ℕ ℕ ℕ primary_level test_level and_level arm_level comparison_level not_level or_level predicate_level product_level sign_level sum_level

abbrev pub sum_nesting : SumTree → ℕ
sum_nesting = fold-SumTree ℕ (ℕ → ℕ) ℕ ℕ ℕ ℕ ℕ ℕ ℕ ℕ ℕ primary_level test_level and_level arm_level comparison_level not_level or_level predicate_level product_level sign_level sum_level

abbrev pub product_nesting : ProductTree → ℕ
product_nesting = fold-ProductTree ℕ (ℕ → ℕ) ℕ ℕ ℕ ℕ ℕ ℕ ℕ ℕ ℕ primary_level test_level and_level arm_level comparison_level not_level or_level predicate_level product_level sign_level sum_level

abbrev pub sign_nesting : SignTree → ℕ
sign_nesting = fold-SignTree ℕ (ℕ → ℕ) ℕ ℕ ℕ ℕ ℕ ℕ ℕ ℕ ℕ primary_level test_level and_level arm_level comparison_level not_level or_level predicate_level product_level sign_level sum_level

abbrev pub primary_nesting : PrimaryTree → ℕ
primary_nesting = fold-PrimaryTree ℕ (ℕ → ℕ) ℕ ℕ ℕ ℕ ℕ ℕ ℕ ℕ ℕ primary_level test_level and_level arm_level comparison_level not_level or_level predicate_level product_level sign_level sum_level

abbrev pub arm_nesting : Arm → ℕ
arm_nesting = fold-Arm ℕ (ℕ → ℕ) ℕ ℕ ℕ ℕ ℕ ℕ ℕ ℕ ℕ primary_level test_level and_level arm_level comparison_level not_level or_level predicate_level product_level sign_level sum_level
