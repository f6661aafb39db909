-- What is made of a tree of each level, from what is made of its parts.
use Rattle.std.proofs.Common.{ℕ, ◌≡◌, List, map, ap, sym, ◌∙◌, Bool, Option, Some, None}
use Rattle.std.specs.Prelude.{option_map}
use Rattle.aqe_values.specs.declared.sql_type.SqlType.{SqlType}
use Rattle.aqe_trees.specs.declared.expression.OrTree.{OrTree, fold-roll-OrTree}
use Rattle.aqe_trees.specs.declared.expression.AndTree.{AndTree, fold-roll-AndTree}
use Rattle.aqe_trees.specs.declared.expression.NotTree.{NotTree, fold-roll-NotTree}
use Rattle.aqe_trees.specs.declared.expression.PredicateTree.{PredicateTree, fold-roll-PredicateTree}
use Rattle.aqe_trees.specs.declared.expression.Test.{Test, Test-F, fold-roll-Test}
use Rattle.aqe_trees.specs.declared.expression.Test.TheVariants as test
use Rattle.aqe_trees.specs.declared.expression.Test.TheVariants.{rolls-Plain, rolls-Between, rolls-OneOf, rolls-Like, rolls-Is}
use Rattle.aqe_trees.specs.declared.expression.Truth.{Truth}
use Rattle.aqe_trees.specs.declared.expression.CompareOp.{CompareOp}
use Rattle.aqe_trees.specs.declared.expression.ComparisonTree.{ComparisonTree, fold-roll-ComparisonTree}
use Rattle.aqe_trees.specs.declared.expression.Sign.{Sign}
use Rattle.aqe_trees.specs.declared.expression.SumTree.{SumTree, fold-roll-SumTree}
use Rattle.aqe_trees.specs.declared.expression.ProductOp.{ProductOp}
use Rattle.aqe_trees.specs.declared.expression.ProductTree.{ProductTree, fold-roll-ProductTree}
use Rattle.aqe_trees.specs.declared.expression.SignTree.{SignTree, fold-roll-SignTree}
use Rattle.aqe_trees.specs.declared.expression.PrimaryTree.{PrimaryTree, PrimaryTree-F, fold-roll-PrimaryTree}
use Rattle.aqe_trees.specs.declared.expression.PrimaryTree.TheVariants as primary
use Rattle.aqe_trees.specs.declared.expression.PrimaryTree.TheVariants.{rolls-Number, rolls-Literal, rolls-Boolean, rolls-Null, rolls-Column, rolls-TableColumn, rolls-Paren, rolls-Cast, rolls-CountAll, rolls-Call, rolls-Case}
use Rattle.aqe_trees.specs.declared.expression.Arm.{Arm, fold-roll-Arm}
use Rattle.aqe_trees.specs.Shapes.{or_tree, and_tree, not_tree, predicate_tree, comparison_tree, sum_tree, product_tree, sign_tree, arm}
use Rattle.aqe_rules.specs.Forms.{Forms}
use Rattle.aqe_rules.specs.Trees.{times, under_signs, negated_if, chain, chain_of_one, primary_level, test_level, and_level, arm_level, comparison_level, not_level, or_level, predicate_level, product_level, sign_level, sum_level, made_of, made_of_and, made_of_not, made_of_predicate, made_of_test, made_of_comparison, made_of_sum, made_of_product, made_of_sign, made_of_primary, made_of_arm}

module _ {A : Type 0} (rule : Forms A) where
  pub of_or : (first : AndTree) (rest : List AndTree) → made_of rule (or_tree first rest) ≡ chain_of_one rule.either (made_of_and rule first) (map (made_of_and rule) rest)
  of_or first rest = fold-roll-OrTree A (A → A) A (A × A) A A A A A A A (primary_level rule) (test_level rule) (and_level rule) (arm_level rule) (comparison_level rule) (not_level rule) (or_level rule) (predicate_level rule) (product_level rule) (sign_level rule) (sum_level rule) (record { first = first; rest = rest })

  pub of_and : (first : NotTree) (rest : List NotTree) → made_of_and rule (and_tree first rest) ≡ chain_of_one rule.both (made_of_not rule first) (map (made_of_not rule) rest)
  of_and first rest = fold-roll-AndTree A (A → A) A (A × A) A A A A A A A (primary_level rule) (test_level rule) (and_level rule) (arm_level rule) (comparison_level rule) (not_level rule) (or_level rule) (predicate_level rule) (product_level rule) (sign_level rule) (sum_level rule) (record { first = first; rest = rest })

  pub of_not : (count : ℕ) (operand : PredicateTree) → made_of_not rule (not_tree count operand) ≡ times rule.negation count (made_of_predicate rule operand)
  of_not count operand = fold-roll-NotTree A (A → A) A (A × A) A A A A A A A (primary_level rule) (test_level rule) (and_level rule) (arm_level rule) (comparison_level rule) (not_level rule) (or_level rule) (predicate_level rule) (product_level rule) (sign_level rule) (sum_level rule) (record { count = count; operand = operand })

  pub of_predicate : (value : ComparisonTree) (test : Test) → made_of_predicate rule (predicate_tree value test) ≡ made_of_test rule test (made_of_comparison rule value)
  of_predicate value test = fold-roll-PredicateTree A (A → A) A (A × A) A A A A A A A (primary_level rule) (test_level rule) (and_level rule) (arm_level rule) (comparison_level rule) (not_level rule) (or_level rule) (predicate_level rule) (product_level rule) (sign_level rule) (sum_level rule) (record { value = value; test = test })

  pub of_comparison : (first : SumTree) (rest : List (CompareOp × SumTree)) → made_of_comparison rule (comparison_tree first rest) ≡ chain rule.compare (made_of_sum rule first) (map (λ next. (next.0, made_of_sum rule next.1)) rest)
  of_comparison first rest = fold-roll-ComparisonTree A (A → A) A (A × A) A A A A A A A (primary_level rule) (test_level rule) (and_level rule) (arm_level rule) (comparison_level rule) (not_level rule) (or_level rule) (predicate_level rule) (product_level rule) (sign_level rule) (sum_level rule) (record { first = first; rest = rest })

  pub of_sum : (first : ProductTree) (rest : List (Sign × ProductTree)) → made_of_sum rule (sum_tree first rest) ≡ chain rule.sum (made_of_product rule first) (map (λ next. (next.0, made_of_product rule next.1)) rest)
  of_sum first rest = fold-roll-SumTree A (A → A) A (A × A) A A A A A A A (primary_level rule) (test_level rule) (and_level rule) (arm_level rule) (comparison_level rule) (not_level rule) (or_level rule) (predicate_level rule) (product_level rule) (sign_level rule) (sum_level rule) (record { first = first; rest = rest })

  pub of_product : (first : SignTree) (rest : List (ProductOp × SignTree)) → made_of_product rule (product_tree first rest) ≡ chain rule.product (made_of_sign rule first) (map (λ next. (next.0, made_of_sign rule next.1)) rest)
  of_product first rest = fold-roll-ProductTree A (A → A) A (A × A) A A A A A A A (primary_level rule) (test_level rule) (and_level rule) (arm_level rule) (comparison_level rule) (not_level rule) (or_level rule) (predicate_level rule) (product_level rule) (sign_level rule) (sum_level rule) (record { first = first; rest = rest })

  pub of_sign : (signs : List Sign) (operand : PrimaryTree) → made_of_sign rule (sign_tree signs operand) ≡ under_signs rule signs (made_of_primary rule operand)
  of_sign signs operand = fold-roll-SignTree A (A → A) A (A × A) A A A A A A A (primary_level rule) (test_level rule) (and_level rule) (arm_level rule) (comparison_level rule) (not_level rule) (or_level rule) (predicate_level rule) (product_level rule) (sign_level rule) (sum_level rule) (record { signs = signs; operand = operand })

  pub of_arm : (when gives : OrTree) → made_of_arm rule (arm when gives) ≡ (made_of rule when, made_of rule gives)
  of_arm when gives = fold-roll-Arm A (A → A) A (A × A) A A A A A A A (primary_level rule) (test_level rule) (and_level rule) (arm_level rule) (comparison_level rule) (not_level rule) (or_level rule) (predicate_level rule) (product_level rule) (sign_level rule) (sum_level rule) (record { when = when; gives = gives })

  -- an operand without an operator outside of parentheses
  pub of_number : (negative : Bool) (n : ℕ) (long : Bool) → made_of_primary rule (primary.Number negative n long) ≡ rule.number negative n long
  of_number negative n long = ap (made_of_primary rule) (sym (rolls-Number negative n long)) ∙ fold-roll-PrimaryTree A (A → A) A (A × A) A A A A A A A (primary_level rule) (test_level rule) (and_level rule) (arm_level rule) (comparison_level rule) (not_level rule) (or_level rule) (predicate_level rule) (product_level rule) (sign_level rule) (sum_level rule) (PrimaryTree-F.Number negative n long)

  pub of_literal : (content : List ℕ) → made_of_primary rule (primary.Literal content) ≡ rule.literal content
  of_literal content = ap (made_of_primary rule) (sym (rolls-Literal content)) ∙ fold-roll-PrimaryTree A (A → A) A (A × A) A A A A A A A (primary_level rule) (test_level rule) (and_level rule) (arm_level rule) (comparison_level rule) (not_level rule) (or_level rule) (predicate_level rule) (product_level rule) (sign_level rule) (sum_level rule) (PrimaryTree-F.Literal content)

  pub of_boolean : (b : Bool) → made_of_primary rule (primary.Boolean b) ≡ rule.boolean b
  of_boolean b = ap (made_of_primary rule) (sym (rolls-Boolean b)) ∙ fold-roll-PrimaryTree A (A → A) A (A × A) A A A A A A A (primary_level rule) (test_level rule) (and_level rule) (arm_level rule) (comparison_level rule) (not_level rule) (or_level rule) (predicate_level rule) (product_level rule) (sign_level rule) (sum_level rule) (PrimaryTree-F.Boolean b)

  pub of_null : made_of_primary rule primary.Null ≡ rule.null
  of_null = ap (made_of_primary rule) (sym rolls-Null) ∙ fold-roll-PrimaryTree A (A → A) A (A × A) A A A A A A A (primary_level rule) (test_level rule) (and_level rule) (arm_level rule) (comparison_level rule) (not_level rule) (or_level rule) (predicate_level rule) (product_level rule) (sign_level rule) (sum_level rule) PrimaryTree-F.Null

  pub of_column : (name : List ℕ) → made_of_primary rule (primary.Column name) ≡ rule.column name
  of_column name = ap (made_of_primary rule) (sym (rolls-Column name)) ∙ fold-roll-PrimaryTree A (A → A) A (A × A) A A A A A A A (primary_level rule) (test_level rule) (and_level rule) (arm_level rule) (comparison_level rule) (not_level rule) (or_level rule) (predicate_level rule) (product_level rule) (sign_level rule) (sum_level rule) (PrimaryTree-F.Column name)

  pub of_table_column : (table name : List ℕ) → made_of_primary rule (primary.TableColumn table name) ≡ rule.table_column table name
  of_table_column table name = ap (made_of_primary rule) (sym (rolls-TableColumn table name)) ∙ fold-roll-PrimaryTree A (A → A) A (A × A) A A A A A A A (primary_level rule) (test_level rule) (and_level rule) (arm_level rule) (comparison_level rule) (not_level rule) (or_level rule) (predicate_level rule) (product_level rule) (sign_level rule) (sum_level rule) (PrimaryTree-F.TableColumn table name)

  pub of_paren : (value : OrTree) → made_of_primary rule (primary.Paren value) ≡ rule.paren (made_of rule value)
  of_paren value = ap (made_of_primary rule) (sym (rolls-Paren value)) ∙ fold-roll-PrimaryTree A (A → A) A (A × A) A A A A A A A (primary_level rule) (test_level rule) (and_level rule) (arm_level rule) (comparison_level rule) (not_level rule) (or_level rule) (predicate_level rule) (product_level rule) (sign_level rule) (sum_level rule) (PrimaryTree-F.Paren value)

  pub of_cast : (value : OrTree) (kind : SqlType) → made_of_primary rule (primary.Cast value kind) ≡ rule.cast kind (made_of rule value)
  of_cast value kind = ap (made_of_primary rule) (sym (rolls-Cast value kind)) ∙ fold-roll-PrimaryTree A (A → A) A (A × A) A A A A A A A (primary_level rule) (test_level rule) (and_level rule) (arm_level rule) (comparison_level rule) (not_level rule) (or_level rule) (predicate_level rule) (product_level rule) (sign_level rule) (sum_level rule) (PrimaryTree-F.Cast value kind)

  pub of_count_all : made_of_primary rule primary.CountAll ≡ rule.count_all
  of_count_all = ap (made_of_primary rule) (sym rolls-CountAll) ∙ fold-roll-PrimaryTree A (A → A) A (A × A) A A A A A A A (primary_level rule) (test_level rule) (and_level rule) (arm_level rule) (comparison_level rule) (not_level rule) (or_level rule) (predicate_level rule) (product_level rule) (sign_level rule) (sum_level rule) PrimaryTree-F.CountAll

  pub of_call : (name : List ℕ) (arguments : List OrTree) → made_of_primary rule (primary.Call name arguments) ≡ rule.call name (map (made_of rule) arguments)
  of_call name arguments = ap (made_of_primary rule) (sym (rolls-Call name arguments)) ∙ fold-roll-PrimaryTree A (A → A) A (A × A) A A A A A A A (primary_level rule) (test_level rule) (and_level rule) (arm_level rule) (comparison_level rule) (not_level rule) (or_level rule) (predicate_level rule) (product_level rule) (sign_level rule) (sum_level rule) (PrimaryTree-F.Call name arguments)

  pub of_case : (operand : Option OrTree) (arms : List Arm) (otherwise : Option OrTree) → made_of_primary rule (primary.Case operand arms otherwise) ≡ rule.case (option_map (made_of rule) operand) (map (made_of_arm rule) arms) (option_map (made_of rule) otherwise)
  of_case None arms None = ap (made_of_primary rule) (sym (rolls-Case None arms None)) ∙ fold-roll-PrimaryTree A (A → A) A (A × A) A A A A A A A (primary_level rule) (test_level rule) (and_level rule) (arm_level rule) (comparison_level rule) (not_level rule) (or_level rule) (predicate_level rule) (product_level rule) (sign_level rule) (sum_level rule) (PrimaryTree-F.Case None arms None)
  of_case None arms (Some b) = ap (made_of_primary rule) (sym (rolls-Case None arms (Some b))) ∙ fold-roll-PrimaryTree A (A → A) A (A × A) A A A A A A A (primary_level rule) (test_level rule) (and_level rule) (arm_level rule) (comparison_level rule) (not_level rule) (or_level rule) (predicate_level rule) (product_level rule) (sign_level rule) (sum_level rule) (PrimaryTree-F.Case None arms (Some b))
  of_case (Some a) arms None = ap (made_of_primary rule) (sym (rolls-Case (Some a) arms None)) ∙ fold-roll-PrimaryTree A (A → A) A (A × A) A A A A A A A (primary_level rule) (test_level rule) (and_level rule) (arm_level rule) (comparison_level rule) (not_level rule) (or_level rule) (predicate_level rule) (product_level rule) (sign_level rule) (sum_level rule) (PrimaryTree-F.Case (Some a) arms None)
  of_case (Some a) arms (Some b) = ap (made_of_primary rule) (sym (rolls-Case (Some a) arms (Some b))) ∙ fold-roll-PrimaryTree A (A → A) A (A × A) A A A A A A A (primary_level rule) (test_level rule) (and_level rule) (arm_level rule) (comparison_level rule) (not_level rule) (or_level rule) (predicate_level rule) (product_level rule) (sign_level rule) (sum_level rule) (PrimaryTree-F.Case (Some a) arms (Some b))

  -- a test, over what is made of the value that it asks about
  pub of_plain : (a : A) → made_of_test rule test.Plain a ≡ a
  of_plain a = ap (λ (f : A → A). f a) (ap (made_of_test rule) (sym rolls-Plain) ∙ fold-roll-Test A (A → A) A (A × A) A A A A A A A (primary_level rule) (test_level rule) (and_level rule) (arm_level rule) (comparison_level rule) (not_level rule) (or_level rule) (predicate_level rule) (product_level rule) (sign_level rule) (sum_level rule) Test-F.Plain)

  pub of_between : (negated : Bool) (low high : ComparisonTree) (a : A) → made_of_test rule (test.Between negated low high) a ≡ negated_if rule negated (rule.between a (made_of_comparison rule low) (made_of_comparison rule high))
  of_between negated low high a = ap (λ (f : A → A). f a) (ap (made_of_test rule) (sym (rolls-Between negated low high)) ∙ fold-roll-Test A (A → A) A (A × A) A A A A A A A (primary_level rule) (test_level rule) (and_level rule) (arm_level rule) (comparison_level rule) (not_level rule) (or_level rule) (predicate_level rule) (product_level rule) (sign_level rule) (sum_level rule) (Test-F.Between negated low high))

  pub of_one_of : (negated : Bool) (list : List OrTree) (a : A) → made_of_test rule (test.OneOf negated list) a ≡ negated_if rule negated (rule.in_list a (map (made_of rule) list))
  of_one_of negated list a = ap (λ (f : A → A). f a) (ap (made_of_test rule) (sym (rolls-OneOf negated list)) ∙ fold-roll-Test A (A → A) A (A × A) A A A A A A A (primary_level rule) (test_level rule) (and_level rule) (arm_level rule) (comparison_level rule) (not_level rule) (or_level rule) (predicate_level rule) (product_level rule) (sign_level rule) (sum_level rule) (Test-F.OneOf negated list))

  pub of_like : (negated : Bool) (pattern : ComparisonTree) (a : A) → made_of_test rule (test.Like negated pattern) a ≡ negated_if rule negated (rule.like a (made_of_comparison rule pattern))
  of_like negated pattern a = ap (λ (f : A → A). f a) (ap (made_of_test rule) (sym (rolls-Like negated pattern)) ∙ fold-roll-Test A (A → A) A (A × A) A A A A A A A (primary_level rule) (test_level rule) (and_level rule) (arm_level rule) (comparison_level rule) (not_level rule) (or_level rule) (predicate_level rule) (product_level rule) (sign_level rule) (sum_level rule) (Test-F.Like negated pattern))

  pub of_is : (negated : Bool) (truth : Truth) (a : A) → made_of_test rule (test.Is negated truth) a ≡ negated_if rule negated (rule.is truth a)
  of_is negated truth a = ap (λ (f : A → A). f a) (ap (made_of_test rule) (sym (rolls-Is negated truth)) ∙ fold-roll-Test A (A → A) A (A × A) A A A A A A A (primary_level rule) (test_level rule) (and_level rule) (arm_level rule) (comparison_level rule) (not_level rule) (or_level rule) (predicate_level rule) (product_level rule) (sign_level rule) (sum_level rule) (Test-F.Is negated truth))
