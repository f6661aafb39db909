-- The nesting of a tree, from its parts.
use Rattle.std.proofs.Common.{ℕ, suc, ◌≡◌, ◌+◌, List, [], ◌∷◌, map, length, ap, sym, ◌∙◌, Bool, Option, Some, None, max, refl}
use Rattle.std.specs.Prelude.{option_map}
use Rattle.aqe_values.specs.declared.sql_type.SqlType.{SqlType}
use Rattle.aqe_trees.specs.declared.expression.OrTree.{OrTree, fold-roll-OrTree}
use Rattle.aqe_trees.specs.declared.expression.AndTree.{AndTree, fold-roll-AndTree}
use Rattle.aqe_trees.specs.declared.expression.NotTree.{NotTree, fold-roll-NotTree}
use Rattle.aqe_trees.specs.declared.expression.PredicateTree.{PredicateTree, fold-roll-PredicateTree}
use Rattle.aqe_trees.specs.declared.expression.Test.{Test, Test-F, fold-roll-Test}
use Rattle.aqe_trees.specs.declared.expression.Test.TheVariants as test
use Rattle.aqe_trees.specs.declared.expression.Test.TheVariants.{rolls-Between, rolls-OneOf, rolls-Like, rolls-Plain, rolls-Is}
use Rattle.aqe_trees.specs.declared.expression.Truth.{Truth}
use Rattle.aqe_trees.specs.declared.expression.CompareOp.{CompareOp}
use Rattle.aqe_trees.specs.declared.expression.ComparisonTree.{ComparisonTree, fold-roll-ComparisonTree}
use Rattle.aqe_trees.specs.declared.expression.Sign.{Sign}
use Rattle.aqe_trees.specs.declared.expression.SumTree.{SumTree, fold-roll-SumTree}
use Rattle.aqe_trees.specs.declared.expression.ProductOp.{ProductOp}
use Rattle.aqe_trees.specs.declared.expression.ProductTree.{ProductTree, fold-roll-ProductTree}
use Rattle.aqe_trees.specs.declared.expression.SignTree.{SignTree, fold-roll-SignTree}
use Rattle.aqe_trees.specs.declared.expression.PrimaryTree.{PrimaryTree, PrimaryTree-F, fold-roll-PrimaryTree}
use Rattle.aqe_trees.specs.declared.expression.PrimaryTree.TheVariants as primary
use Rattle.aqe_trees.specs.declared.expression.PrimaryTree.TheVariants.{rolls-Paren, rolls-Cast, rolls-Call, rolls-Case, rolls-Number, rolls-Literal, rolls-Boolean, rolls-Null, rolls-Column, rolls-TableColumn, rolls-CountAll}
use Rattle.aqe_trees.specs.declared.expression.Arm.{Arm, fold-roll-Arm}
use Rattle.aqe_trees.specs.Shapes.{or_tree, and_tree, not_tree, predicate_tree, comparison_tree, sum_tree, product_tree, sign_tree, arm}
use Rattle.aqe_script.specs.Nesting.{deepest, of_maybe, chain_depth, primary_level, test_level, and_level, arm_level, comparison_level, not_level, or_level, predicate_level, product_level, sign_level, sum_level, or_nesting}
use Rattle.aqe_script.specs.Levels.{and_nesting, not_nesting, predicate_nesting, test_nesting, comparison_nesting, sum_nesting, product_nesting, sign_nesting, primary_nesting, arm_nesting}

pub of_or : (first : AndTree) (rest : List AndTree) → or_nesting (or_tree first rest) ≡ chain_depth (and_nesting first) (map and_nesting rest)
of_or first rest = fold-roll-OrTree ℕ (ℕ → ℕ) ℕ ℕ ℕ ℕ ℕ ℕ ℕ ℕ ℕ primary_level test_level and_level arm_level comparison_level not_level or_level predicate_level product_level sign_level sum_level (record { first = first; rest = rest })

pub of_and : (first : NotTree) (rest : List NotTree) → and_nesting (and_tree first rest) ≡ chain_depth (not_nesting first) (map not_nesting rest)
of_and first rest = fold-roll-AndTree ℕ (ℕ → ℕ) ℕ ℕ ℕ ℕ ℕ ℕ ℕ ℕ ℕ primary_level test_level and_level arm_level comparison_level not_level or_level predicate_level product_level sign_level sum_level (record { first = first; rest = rest })

seconds_comparison : (rest : List (CompareOp × SumTree)) → map (λ (next : _ × ℕ). next.1) (map (λ (next : CompareOp × SumTree). (next.0, sum_nesting next.1)) rest) ≡ map (λ (next : CompareOp × SumTree). sum_nesting next.1) rest
seconds_comparison [] = refl
seconds_comparison (next ∷ rest) = ap (λ xs. sum_nesting next.1 ∷ xs) (seconds_comparison rest)

pub of_comparison : (first : SumTree) (rest : List (CompareOp × SumTree)) → comparison_nesting (comparison_tree first rest) ≡ chain_depth (sum_nesting first) (map (λ (next : CompareOp × SumTree). sum_nesting next.1) rest)
of_comparison first rest = fold-roll-ComparisonTree ℕ (ℕ → ℕ) ℕ ℕ ℕ ℕ ℕ ℕ ℕ ℕ ℕ primary_level test_level and_level arm_level comparison_level not_level or_level predicate_level product_level sign_level sum_level (record { first = first; rest = rest }) ∙ ap (chain_depth (sum_nesting first)) (seconds_comparison rest)

seconds_sum : (rest : List (Sign × ProductTree)) → map (λ (next : _ × ℕ). next.1) (map (λ (next : Sign × ProductTree). (next.0, product_nesting next.1)) rest) ≡ map (λ (next : Sign × ProductTree). product_nesting next.1) rest
seconds_sum [] = refl
seconds_sum (next ∷ rest) = ap (λ xs. product_nesting next.1 ∷ xs) (seconds_sum rest)

pub of_sum : (first : ProductTree) (rest : List (Sign × ProductTree)) → sum_nesting (sum_tree first rest) ≡ chain_depth (product_nesting first) (map (λ (next : Sign × ProductTree). product_nesting next.1) rest)
of_sum first rest = fold-roll-SumTree ℕ (ℕ → ℕ) ℕ ℕ ℕ ℕ ℕ ℕ ℕ ℕ ℕ primary_level test_level and_level arm_level comparison_level not_level or_level predicate_level product_level sign_level sum_level (record { first = first; rest = rest }) ∙ ap (chain_depth (product_nesting first)) (seconds_sum rest)

seconds_product : (rest : List (ProductOp × SignTree)) → map (λ (next : _ × ℕ). next.1) (map (λ (next : ProductOp × SignTree). (next.0, sign_nesting next.1)) rest) ≡ map (λ (next : ProductOp × SignTree). sign_nesting next.1) rest
seconds_product [] = refl
seconds_product (next ∷ rest) = ap (λ xs. sign_nesting next.1 ∷ xs) (seconds_product rest)

pub of_product : (first : SignTree) (rest : List (ProductOp × SignTree)) → product_nesting (product_tree first rest) ≡ chain_depth (sign_nesting first) (map (λ (next : ProductOp × SignTree). sign_nesting next.1) rest)
of_product first rest = fold-roll-ProductTree ℕ (ℕ → ℕ) ℕ ℕ ℕ ℕ ℕ ℕ ℕ ℕ ℕ primary_level test_level and_level arm_level comparison_level not_level or_level predicate_level product_level sign_level sum_level (record { first = first; rest = rest }) ∙ ap (chain_depth (sign_nesting first)) (seconds_product rest)

pub of_not : (count : ℕ) (operand : PredicateTree) → not_nesting (not_tree count operand) ≡ count + predicate_nesting operand
of_not count operand = fold-roll-NotTree ℕ (ℕ → ℕ) ℕ ℕ ℕ ℕ ℕ ℕ ℕ ℕ ℕ primary_level test_level and_level arm_level comparison_level not_level or_level predicate_level product_level sign_level sum_level (record { count = count; operand = operand })

pub of_predicate : (value : ComparisonTree) (test : Test) → predicate_nesting (predicate_tree value test) ≡ test_nesting test (comparison_nesting value)
of_predicate value test = fold-roll-PredicateTree ℕ (ℕ → ℕ) ℕ ℕ ℕ ℕ ℕ ℕ ℕ ℕ ℕ primary_level test_level and_level arm_level comparison_level not_level or_level predicate_level product_level sign_level sum_level (record { value = value; test = test })

pub of_sign : (signs : List Sign) (operand : PrimaryTree) → sign_nesting (sign_tree signs operand) ≡ length signs + primary_nesting operand
of_sign signs operand = fold-roll-SignTree ℕ (ℕ → ℕ) ℕ ℕ ℕ ℕ ℕ ℕ ℕ ℕ ℕ primary_level test_level and_level arm_level comparison_level not_level or_level predicate_level product_level sign_level sum_level (record { signs = signs; operand = operand })

pub of_arm : (when : OrTree) (gives : OrTree) → arm_nesting (arm when gives) ≡ max (or_nesting when) (or_nesting gives)
of_arm when gives = fold-roll-Arm ℕ (ℕ → ℕ) ℕ ℕ ℕ ℕ ℕ ℕ ℕ ℕ ℕ primary_level test_level and_level arm_level comparison_level not_level or_level predicate_level product_level sign_level sum_level (record { when = when; gives = gives })

pub of_paren : (value : OrTree) → primary_nesting (primary.Paren value) ≡ suc (or_nesting value)
of_paren value = ap primary_nesting (sym (rolls-Paren value)) ∙ fold-roll-PrimaryTree ℕ (ℕ → ℕ) ℕ ℕ ℕ ℕ ℕ ℕ ℕ ℕ ℕ primary_level test_level and_level arm_level comparison_level not_level or_level predicate_level product_level sign_level sum_level (PrimaryTree-F.Paren value)

pub of_cast : (value : OrTree) (kind : SqlType) → primary_nesting (primary.Cast value kind) ≡ suc (or_nesting value)
of_cast value kind = ap primary_nesting (sym (rolls-Cast value kind)) ∙ fold-roll-PrimaryTree ℕ (ℕ → ℕ) ℕ ℕ ℕ ℕ ℕ ℕ ℕ ℕ ℕ primary_level test_level and_level arm_level comparison_level not_level or_level predicate_level product_level sign_level sum_level (PrimaryTree-F.Cast value kind)

pub of_call : (name : List ℕ) (arguments : List OrTree) → primary_nesting (primary.Call name arguments) ≡ suc (deepest (map or_nesting arguments))
of_call name arguments = ap primary_nesting (sym (rolls-Call name arguments)) ∙ fold-roll-PrimaryTree ℕ (ℕ → ℕ) ℕ ℕ ℕ ℕ ℕ ℕ ℕ ℕ ℕ primary_level test_level and_level arm_level comparison_level not_level or_level predicate_level product_level sign_level sum_level (PrimaryTree-F.Call name arguments)

pub of_case : (operand : Option OrTree) (arms : List Arm) (otherwise : Option OrTree) → primary_nesting (primary.Case operand arms otherwise) ≡
    suc (max (of_maybe (option_map or_nesting operand)) (max (deepest (map arm_nesting arms)) (of_maybe (option_map or_nesting otherwise))))
of_case None arms None = ap primary_nesting (sym (rolls-Case None arms None)) ∙ fold-roll-PrimaryTree ℕ (ℕ → ℕ) ℕ ℕ ℕ ℕ ℕ ℕ ℕ ℕ ℕ primary_level test_level and_level arm_level comparison_level not_level or_level predicate_level product_level sign_level sum_level (PrimaryTree-F.Case None arms None)
of_case None arms (Some b) = ap primary_nesting (sym (rolls-Case None arms (Some b))) ∙ fold-roll-PrimaryTree ℕ (ℕ → ℕ) ℕ ℕ ℕ ℕ ℕ ℕ ℕ ℕ ℕ primary_level test_level and_level arm_level comparison_level not_level or_level predicate_level product_level sign_level sum_level (PrimaryTree-F.Case None arms (Some b))
of_case (Some a) arms None = ap primary_nesting (sym (rolls-Case (Some a) arms None)) ∙ fold-roll-PrimaryTree ℕ (ℕ → ℕ) ℕ ℕ ℕ ℕ ℕ ℕ ℕ ℕ ℕ primary_level test_level and_level arm_level comparison_level not_level or_level predicate_level product_level sign_level sum_level (PrimaryTree-F.Case (Some a) arms None)
of_case (Some a) arms (Some b) = ap primary_nesting (sym (rolls-Case (Some a) arms (Some b))) ∙ fold-roll-PrimaryTree ℕ (ℕ → ℕ) ℕ ℕ ℕ ℕ ℕ ℕ ℕ ℕ ℕ primary_level test_level and_level arm_level comparison_level not_level or_level predicate_level product_level sign_level sum_level (PrimaryTree-F.Case (Some a) arms (Some b))

pub of_between : (negated : Bool) (low high : ComparisonTree) (a : ℕ) → test_nesting (test.Between negated low high) a ≡ suc (max a (max (comparison_nesting low) (comparison_nesting high)))
of_between negated low high a = ap (λ (f : ℕ → ℕ). f a) (ap test_nesting (sym (rolls-Between negated low high)) ∙ fold-roll-Test ℕ (ℕ → ℕ) ℕ ℕ ℕ ℕ ℕ ℕ ℕ ℕ ℕ primary_level test_level and_level arm_level comparison_level not_level or_level predicate_level product_level sign_level sum_level (Test-F.Between negated low high))

pub of_one_of : (negated : Bool) (list : List OrTree) (a : ℕ) → test_nesting (test.OneOf negated list) a ≡ suc (max a (deepest (map or_nesting list)))
of_one_of negated list a = ap (λ (f : ℕ → ℕ). f a) (ap test_nesting (sym (rolls-OneOf negated list)) ∙ fold-roll-Test ℕ (ℕ → ℕ) ℕ ℕ ℕ ℕ ℕ ℕ ℕ ℕ ℕ primary_level test_level and_level arm_level comparison_level not_level or_level predicate_level product_level sign_level sum_level (Test-F.OneOf negated list))

pub of_like : (negated : Bool) (pattern : ComparisonTree) (a : ℕ) → test_nesting (test.Like negated pattern) a ≡ suc (max a (comparison_nesting pattern))
of_like negated pattern a = ap (λ (f : ℕ → ℕ). f a) (ap test_nesting (sym (rolls-Like negated pattern)) ∙ fold-roll-Test ℕ (ℕ → ℕ) ℕ ℕ ℕ ℕ ℕ ℕ ℕ ℕ ℕ primary_level test_level and_level arm_level comparison_level not_level or_level predicate_level product_level sign_level sum_level (Test-F.Like negated pattern))

pub of_number : (negative : Bool) (n : ℕ) (long : Bool) → primary_nesting (primary.Number negative n long) ≡ 1
of_number negative n long = ap primary_nesting (sym (rolls-Number negative n long)) ∙ fold-roll-PrimaryTree ℕ (ℕ → ℕ) ℕ ℕ ℕ ℕ ℕ ℕ ℕ ℕ ℕ primary_level test_level and_level arm_level comparison_level not_level or_level predicate_level product_level sign_level sum_level (PrimaryTree-F.Number negative n long)

pub of_literal : (text : List ℕ) → primary_nesting (primary.Literal text) ≡ 1
of_literal text = ap primary_nesting (sym (rolls-Literal text)) ∙ fold-roll-PrimaryTree ℕ (ℕ → ℕ) ℕ ℕ ℕ ℕ ℕ ℕ ℕ ℕ ℕ primary_level test_level and_level arm_level comparison_level not_level or_level predicate_level product_level sign_level sum_level (PrimaryTree-F.Literal text)

pub of_boolean : (b : Bool) → primary_nesting (primary.Boolean b) ≡ 1
of_boolean b = ap primary_nesting (sym (rolls-Boolean b)) ∙ fold-roll-PrimaryTree ℕ (ℕ → ℕ) ℕ ℕ ℕ ℕ ℕ ℕ ℕ ℕ ℕ primary_level test_level and_level arm_level comparison_level not_level or_level predicate_level product_level sign_level sum_level (PrimaryTree-F.Boolean b)

pub of_null : primary_nesting primary.Null ≡ 1
of_null = ap primary_nesting (sym rolls-Null) ∙ fold-roll-PrimaryTree ℕ (ℕ → ℕ) ℕ ℕ ℕ ℕ ℕ ℕ ℕ ℕ ℕ primary_level test_level and_level arm_level comparison_level not_level or_level predicate_level product_level sign_level sum_level PrimaryTree-F.Null

pub of_column : (name : List ℕ) → primary_nesting (primary.Column name) ≡ 1
of_column name = ap primary_nesting (sym (rolls-Column name)) ∙ fold-roll-PrimaryTree ℕ (ℕ → ℕ) ℕ ℕ ℕ ℕ ℕ ℕ ℕ ℕ ℕ primary_level test_level and_level arm_level comparison_level not_level or_level predicate_level product_level sign_level sum_level (PrimaryTree-F.Column name)

pub of_table_column : (table name : List ℕ) → primary_nesting (primary.TableColumn table name) ≡ 1
of_table_column table name = ap primary_nesting (sym (rolls-TableColumn table name)) ∙ fold-roll-PrimaryTree ℕ (ℕ → ℕ) ℕ ℕ ℕ ℕ ℕ ℕ ℕ ℕ ℕ primary_level test_level and_level arm_level comparison_level not_level or_level predicate_level product_level sign_level sum_level (PrimaryTree-F.TableColumn table name)

pub of_count_all : primary_nesting primary.CountAll ≡ 1
of_count_all = ap primary_nesting (sym rolls-CountAll) ∙ fold-roll-PrimaryTree ℕ (ℕ → ℕ) ℕ ℕ ℕ ℕ ℕ ℕ ℕ ℕ ℕ primary_level test_level and_level arm_level comparison_level not_level or_level predicate_level product_level sign_level sum_level PrimaryTree-F.CountAll

pub of_plain : (a : ℕ) → test_nesting test.Plain a ≡ a
of_plain a = ap (λ (f : ℕ → ℕ). f a) (ap test_nesting (sym rolls-Plain) ∙ fold-roll-Test ℕ (ℕ → ℕ) ℕ ℕ ℕ ℕ ℕ ℕ ℕ ℕ ℕ primary_level test_level and_level arm_level comparison_level not_level or_level predicate_level product_level sign_level sum_level Test-F.Plain)

pub of_is : (negated : Bool) (truth : Truth) (a : ℕ) → test_nesting (test.Is negated truth) a ≡ suc a
of_is negated truth a = ap (λ (f : ℕ → ℕ). f a) (ap test_nesting (sym (rolls-Is negated truth)) ∙ fold-roll-Test ℕ (ℕ → ℕ) ℕ ℕ ℕ ℕ ℕ ℕ ℕ ℕ ℕ primary_level test_level and_level arm_level comparison_level not_level or_level predicate_level product_level sign_level sum_level (Test-F.Is negated truth))
