-- The forms of an expression, read off its tree.
use Rattle.std.specs.Prelude.{ℕ, zero, suc, List, [], ◌∷◌, Bool, true, false}
use Rattle.aqe_trees.specs.declared.expression.OrTree.{OrTree, OrTree-F, fold-OrTree}
use Rattle.aqe_trees.specs.declared.expression.AndTree.{AndTree, AndTree-F, fold-AndTree}
use Rattle.aqe_trees.specs.declared.expression.NotTree.{NotTree, NotTree-F, fold-NotTree}
use Rattle.aqe_trees.specs.declared.expression.PredicateTree.{PredicateTree, PredicateTree-F, fold-PredicateTree}
use Rattle.aqe_trees.specs.declared.expression.Test.{Test, Test-F, fold-Test}
use Rattle.aqe_trees.specs.declared.expression.ComparisonTree.{ComparisonTree, ComparisonTree-F, fold-ComparisonTree}
use Rattle.aqe_trees.specs.declared.expression.SumTree.{SumTree, SumTree-F, fold-SumTree}
use Rattle.aqe_trees.specs.declared.expression.Sign.{Sign}
use Rattle.aqe_trees.specs.declared.expression.ProductTree.{ProductTree, ProductTree-F, fold-ProductTree}
use Rattle.aqe_trees.specs.declared.expression.SignTree.{SignTree, SignTree-F, fold-SignTree}
use Rattle.aqe_trees.specs.declared.expression.PrimaryTree.{PrimaryTree, PrimaryTree-F, fold-PrimaryTree}
use Rattle.aqe_trees.specs.declared.expression.Arm.{Arm, Arm-F, fold-Arm}
use Rattle.aqe_rules.specs.Forms.{Forms}

-- NOT, so many times; signs, the outermost first; and NOT where a test is negated
abbrev pub times : {A : Type 0} → (A → A) → ℕ → A → A
times f zero a = a
times f (suc n) a = f (times f n a)

abbrev pub under_signs : {A : Type 0} → Forms A → List Sign → A → A
under_signs rule [] a = a
under_signs rule (sign ∷ signs) a = rule.with_sign sign (under_signs rule signs a)

abbrev pub negated_if : {A : Type 0} → Forms A → Bool → A → A
negated_if rule true a = rule.negation a
negated_if rule false a = a

-- operators of one level, from left to right
abbrev pub chain : {A B : Type 0} → (B → A → A → A) → A → List (B × A) → A
chain rule a [] = a
chain rule a (next ∷ rest) = chain rule (rule next.0 a next.1) rest

abbrev pub chain_of_one : {A : Type 0} → (A → A → A) → A → List A → A
chain_of_one rule a [] = a
chain_of_one rule a (b ∷ rest) = chain_of_one rule (rule a b) rest

-- each level of the tree, from what is made of the levels below; a test is made of the value that it asks about
module _ {A : Type 0} (rule : Forms A) where
  abbrev pub primary_level : PrimaryTree-F A (A → A) A (A × A) A A A A A A A → A
  primary_level (PrimaryTree-F.Number negative n long) = rule.number negative n long
  primary_level (PrimaryTree-F.Literal content) = rule.literal content
  primary_level (PrimaryTree-F.Boolean b) = rule.boolean b
  primary_level PrimaryTree-F.Null = rule.null
  primary_level (PrimaryTree-F.Column name) = rule.column name
  primary_level (PrimaryTree-F.TableColumn table name) = rule.table_column table name
  primary_level (PrimaryTree-F.Paren a) = rule.paren a
  primary_level (PrimaryTree-F.Cast a kind) = rule.cast kind a
  primary_level (PrimaryTree-F.Case operand arms otherwise) = rule.case operand arms otherwise
  primary_level PrimaryTree-F.CountAll = rule.count_all
  primary_level (PrimaryTree-F.Call name arguments) = rule.call name arguments

  abbrev pub test_level : Test-F A (A → A) A (A × A) A A A A A A A → A → A
  test_level Test-F.Plain a = a
  test_level (Test-F.Between negated low high) a = negated_if rule negated (rule.between a low high)
  test_level (Test-F.OneOf negated list) a = negated_if rule negated (rule.in_list a list)
  test_level (Test-F.Like negated pattern) a = negated_if rule negated (rule.like a pattern)
  test_level (Test-F.Is negated truth) a = negated_if rule negated (rule.is truth a)

  abbrev pub and_level : AndTree-F A (A → A) A (A × A) A A A A A A A → A
  and_level l = chain_of_one rule.both l.first l.rest

  abbrev pub arm_level : Arm-F A (A → A) A (A × A) A A A A A A A → A × A
  arm_level l = (l.when, l.gives)

  abbrev pub comparison_level : ComparisonTree-F A (A → A) A (A × A) A A A A A A A → A
  comparison_level l = chain rule.compare l.first l.rest

  abbrev pub not_level : NotTree-F A (A → A) A (A × A) A A A A A A A → A
  not_level l = times rule.negation l.count l.operand

  abbrev pub or_level : OrTree-F A (A → A) A (A × A) A A A A A A A → A
  or_level l = chain_of_one rule.either l.first l.rest

  abbrev pub predicate_level : PredicateTree-F A (A → A) A (A × A) A A A A A A A → A
  predicate_level l = l.test l.value

  abbrev pub product_level : ProductTree-F A (A → A) A (A × A) A A A A A A A → A
  product_level l = chain rule.product l.first l.rest

  abbrev pub sign_level : SignTree-F A (A → A) A (A × A) A A A A A A A → A
  sign_level l = under_signs rule l.signs l.operand

  abbrev pub sum_level : SumTree-F A (A → A) A (A × A) A A A A A A A → A
  sum_level l = chain rule.sum l.first l.rest

  -- what is made of a tree of each level
  abbrev pub made_of_primary : PrimaryTree → A
  made_of_primary = fold-PrimaryTree A (A → A) A (A × A) A A A A A A A primary_level test_level and_level arm_level comparison_level not_level or_level predicate_level product_level sign_level sum_level

  abbrev pub made_of_test : Test → A → A
  made_of_test = fold-Test A (A → A) A (A × A) A A A A A A A primary_level test_level and_level arm_level comparison_level not_level or_level predicate_level product_level sign_level sum_level

  abbrev pub made_of_and : AndTree → A
  made_of_and = fold-AndTree A (A → A) A (A × A) A A A A A A A primary_level test_level and_level arm_level comparison_level not_level or_level predicate_level product_level sign_level sum_level

  abbrev pub made_of_arm : Arm → A × A
  made_of_arm = fold-Arm A (A → A) A (A × A) A A A A A A A primary_level test_level and_level arm_level comparison_level not_level or_level predicate_level product_level sign_level sum_level

  abbrev pub made_of_comparison : ComparisonTree → A
  made_of_comparison = fold-ComparisonTree A (A → A) A (A × A) A A A A A A A primary_level test_level and_level arm_level comparison_level not_level or_level predicate_level product_level sign_level sum_level

  abbrev pub made_of_not : NotTree → A
  made_of_not = fold-NotTree A (A → A) A (A × A) A A A A A A A primary_level test_level and_level arm_level comparison_level not_level or_level predicate_level product_level sign_level sum_level

  abbrev pub made_of_predicate : PredicateTree → A
  made_of_predicate = fold-PredicateTree A (A → A) A (A × A) A A A A A A A primary_level test_level and_level arm_level comparison_level not_level or_level predicate_level product_level sign_level sum_level

  abbrev pub made_of_product : ProductTree → A
  made_of_product = fold-ProductTree A (A → A) A (A × A) A A A A A A A primary_level test_level and_level arm_level comparison_level not_level or_level predicate_level product_level sign_level sum_level

  abbrev pub made_of_sign : SignTree → A
  made_of_sign = fold-SignTree A (A → A) A (A × A) A A A A A A A primary_level test_level and_level arm_level comparison_level not_level or_level predicate_level product_level sign_level sum_level

  abbrev pub made_of_sum : SumTree → A
  made_of_sum = fold-SumTree A (A → A) A (A × A) A A A A A A A primary_level test_level and_level arm_level comparison_level not_level or_level predicate_level product_level sign_level sum_level

  -- what is made of an expression
  abbrev pub made_of : OrTree → A
  made_of = fold-OrTree A (A → A) A (A × A) A A A A A A A primary_level test_level and_level arm_level comparison_level not_level or_level predicate_level product_level sign_level sum_level
