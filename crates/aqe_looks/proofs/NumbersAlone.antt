-- What number a tree of each level is alone, from its parts.
use Rattle.std.proofs.Common.{◌≡◌, ◌<◌, ℕ, zero, suc, Bool, true, false, List, [], ◌∷◌, map, length, Option, Some, None, refl, ap, ◌∙◌, arith}
use Rattle.aqe_values.specs.declared.sql_type.SqlType.{SqlType}
use Rattle.aqe_trees.specs.declared.expression.OrTree.{OrTree}
use Rattle.aqe_trees.specs.declared.expression.AndTree.{AndTree}
use Rattle.aqe_trees.specs.declared.expression.NotTree.{NotTree}
use Rattle.aqe_trees.specs.declared.expression.PredicateTree.{PredicateTree}
use Rattle.aqe_trees.specs.declared.expression.Test.{Test}
use Rattle.aqe_trees.specs.declared.expression.Test.TheVariants as test
use Rattle.aqe_trees.specs.declared.expression.Truth.{Truth}
use Rattle.aqe_trees.specs.declared.expression.CompareOp.{CompareOp}
use Rattle.aqe_trees.specs.declared.expression.ComparisonTree.{ComparisonTree}
use Rattle.aqe_trees.specs.declared.expression.SumTree.{SumTree}
use Rattle.aqe_trees.specs.declared.expression.Sign.{Sign}
use Rattle.aqe_trees.specs.declared.expression.ProductTree.{ProductTree}
use Rattle.aqe_trees.specs.declared.expression.ProductOp.{ProductOp}
use Rattle.aqe_trees.specs.declared.expression.SignTree.{SignTree}
use Rattle.aqe_trees.specs.declared.expression.PrimaryTree.{PrimaryTree}
use Rattle.aqe_trees.specs.declared.expression.PrimaryTree.TheVariants as primary
use Rattle.aqe_trees.specs.declared.expression.Arm.{Arm}
use Rattle.aqe_trees.specs.Shapes.{or_tree, and_tree, not_tree, predicate_tree, comparison_tree, sum_tree, product_tree, sign_tree}
use Rattle.aqe_rules.specs.Looks.{Alone, something, alone}
use Rattle.aqe_rules.specs.Trees.{negated_if, chain, chain_of_one, made_of, made_of_and, made_of_not, made_of_predicate, made_of_test, made_of_comparison, made_of_sum, made_of_product, made_of_sign, made_of_primary}
use Rattle.aqe_rules.proofs.Levels.{of_or, of_and, of_not, of_predicate, of_comparison, of_sum, of_product, of_sign, of_number, of_literal, of_boolean, of_null, of_column, of_table_column, of_paren, of_cast, of_count_all, of_call, of_case, of_plain, of_between, of_one_of, of_like, of_is}
use Rattle.aqe_looks.specs.Numbers.{number_of, number_of_or, number_of_and, number_of_not, number_of_predicate, number_of_comparison, number_of_sum, number_of_product, number_of_sign, number_of_primary}

seen : {a b : Alone} → a ≡ b → number_of a ≡ number_of b
seen e = ap number_of e

-- what has an operator is something else
no_number : (rest : List Alone) → chain_of_one (λ (a b : Alone). something) something rest ≡ something
no_number [] = refl
no_number (a ∷ rest) = no_number rest

no_number_of_pairs : {B : Type 0} (rest : List (B × Alone)) → chain (λ (op : B) (a b : Alone). something) something rest ≡ something
no_number_of_pairs [] = refl
no_number_of_pairs (a ∷ rest) = no_number_of_pairs rest

pub or_alone : (t : OrTree) (first : AndTree) (rest : List AndTree) → t ≡ or_tree first rest → length rest ≡ 0 → number_of_or t ≡ number_of_and first
unfolding number_of_or number_of_and
or_alone t first [] e h = ap (λ (tree : OrTree). number_of (made_of alone tree)) e ∙ seen (of_or alone first [])
or_alone t first (next ∷ rest) e h = absurd (omega (arith, h))

pub or_not_alone : (t : OrTree) (first : AndTree) (rest : List AndTree) → t ≡ or_tree first rest → 0 < length rest → number_of_or t ≡ None
unfolding number_of_or
or_not_alone t first [] e h = absurd (omega (arith, h))
or_not_alone t first (next ∷ rest) e h = ap (λ (tree : OrTree). number_of (made_of alone tree)) e ∙ seen (of_or alone first (next ∷ rest) ∙ no_number (map (made_of_and alone) rest))

pub and_alone : (t : AndTree) (first : NotTree) (rest : List NotTree) → t ≡ and_tree first rest → length rest ≡ 0 → number_of_and t ≡ number_of_not first
unfolding number_of_and number_of_not
and_alone t first [] e h = ap (λ (tree : AndTree). number_of (made_of_and alone tree)) e ∙ seen (of_and alone first [])
and_alone t first (next ∷ rest) e h = absurd (omega (arith, h))

pub and_not_alone : (t : AndTree) (first : NotTree) (rest : List NotTree) → t ≡ and_tree first rest → 0 < length rest → number_of_and t ≡ None
unfolding number_of_and
and_not_alone t first [] e h = absurd (omega (arith, h))
and_not_alone t first (next ∷ rest) e h = ap (λ (tree : AndTree). number_of (made_of_and alone tree)) e ∙ seen (of_and alone first (next ∷ rest) ∙ no_number (map (made_of_not alone) rest))

pub comparison_alone : (t : ComparisonTree) (first : SumTree) (rest : List (CompareOp × SumTree)) → t ≡ comparison_tree first rest → length rest ≡ 0 → number_of_comparison t ≡ number_of_sum first
unfolding number_of_comparison number_of_sum
comparison_alone t first [] e h = ap (λ (tree : ComparisonTree). number_of (made_of_comparison alone tree)) e ∙ seen (of_comparison alone first [])
comparison_alone t first (next ∷ rest) e h = absurd (omega (arith, h))

pub comparison_not_alone : (t : ComparisonTree) (first : SumTree) (rest : List (CompareOp × SumTree)) → t ≡ comparison_tree first rest → 0 < length rest → number_of_comparison t ≡ None
unfolding number_of_comparison
comparison_not_alone t first [] e h = absurd (omega (arith, h))
comparison_not_alone t first (next ∷ rest) e h = ap (λ (tree : ComparisonTree). number_of (made_of_comparison alone tree)) e ∙ seen (of_comparison alone first (next ∷ rest) ∙ no_number_of_pairs (map (λ next. (next.0, made_of_sum alone next.1)) rest))

pub sum_alone : (t : SumTree) (first : ProductTree) (rest : List (Sign × ProductTree)) → t ≡ sum_tree first rest → length rest ≡ 0 → number_of_sum t ≡ number_of_product first
unfolding number_of_sum number_of_product
sum_alone t first [] e h = ap (λ (tree : SumTree). number_of (made_of_sum alone tree)) e ∙ seen (of_sum alone first [])
sum_alone t first (next ∷ rest) e h = absurd (omega (arith, h))

pub sum_not_alone : (t : SumTree) (first : ProductTree) (rest : List (Sign × ProductTree)) → t ≡ sum_tree first rest → 0 < length rest → number_of_sum t ≡ None
unfolding number_of_sum
sum_not_alone t first [] e h = absurd (omega (arith, h))
sum_not_alone t first (next ∷ rest) e h = ap (λ (tree : SumTree). number_of (made_of_sum alone tree)) e ∙ seen (of_sum alone first (next ∷ rest) ∙ no_number_of_pairs (map (λ next. (next.0, made_of_product alone next.1)) rest))

pub product_alone : (t : ProductTree) (first : SignTree) (rest : List (ProductOp × SignTree)) → t ≡ product_tree first rest → length rest ≡ 0 → number_of_product t ≡ number_of_sign first
unfolding number_of_product number_of_sign
product_alone t first [] e h = ap (λ (tree : ProductTree). number_of (made_of_product alone tree)) e ∙ seen (of_product alone first [])
product_alone t first (next ∷ rest) e h = absurd (omega (arith, h))

pub product_not_alone : (t : ProductTree) (first : SignTree) (rest : List (ProductOp × SignTree)) → t ≡ product_tree first rest → 0 < length rest → number_of_product t ≡ None
unfolding number_of_product
product_not_alone t first [] e h = absurd (omega (arith, h))
product_not_alone t first (next ∷ rest) e h = ap (λ (tree : ProductTree). number_of (made_of_product alone tree)) e ∙ seen (of_product alone first (next ∷ rest) ∙ no_number_of_pairs (map (λ next. (next.0, made_of_sign alone next.1)) rest))

pub not_alone : (t : NotTree) (count : ℕ) (operand : PredicateTree) → t ≡ not_tree count operand → count ≡ 0 → number_of_not t ≡ number_of_predicate operand
unfolding number_of_not number_of_predicate
not_alone t zero operand e h = ap (λ (tree : NotTree). number_of (made_of_not alone tree)) e ∙ seen (of_not alone 0 operand)
not_alone t (suc count) operand e h = absurd (omega (arith, h))

pub not_not_alone : (t : NotTree) (count : ℕ) (operand : PredicateTree) → t ≡ not_tree count operand → 0 < count → number_of_not t ≡ None
unfolding number_of_not
not_not_alone t zero operand e h = absurd (omega (arith, h))
not_not_alone t (suc count) operand e h = ap (λ (tree : NotTree). number_of (made_of_not alone tree)) e ∙ seen (of_not alone (suc count) operand)

pub sign_alone : (t : SignTree) (signs : List Sign) (operand : PrimaryTree) → t ≡ sign_tree signs operand → length signs ≡ 0 → number_of_sign t ≡ number_of_primary operand
unfolding number_of_sign number_of_primary
sign_alone t [] operand e h = ap (λ (tree : SignTree). number_of (made_of_sign alone tree)) e ∙ seen (of_sign alone [] operand)
sign_alone t (sign ∷ signs) operand e h = absurd (omega (arith, h))

pub sign_not_alone : (t : SignTree) (signs : List Sign) (operand : PrimaryTree) → t ≡ sign_tree signs operand → 0 < length signs → number_of_sign t ≡ None
unfolding number_of_sign
sign_not_alone t [] operand e h = absurd (omega (arith, h))
sign_not_alone t (sign ∷ signs) operand e h = ap (λ (tree : SignTree). number_of (made_of_sign alone tree)) e ∙ seen (of_sign alone (sign ∷ signs) operand)

-- tests
if_negated : (negated : Bool) → negated_if alone negated something ≡ something
if_negated true = refl
if_negated false = refl

module _ (t : PredicateTree) (value : ComparisonTree) where
  at : (asked : Test) {a : Alone} → t ≡ predicate_tree value asked → made_of_test alone asked (made_of_comparison alone value) ≡ a → number_of_predicate t ≡ number_of a
  unfolding number_of_predicate
  at asked e h = ap (λ (tree : PredicateTree). number_of (made_of_predicate alone tree)) e ∙ seen (of_predicate alone value asked ∙ h)

  pub plain_alone : (asked : Test) → t ≡ predicate_tree value asked → asked ≡ test.Plain → number_of_predicate t ≡ number_of_comparison value
  unfolding number_of_comparison
  plain_alone asked e h = at asked e (ap (λ (a : Test). made_of_test alone a (made_of_comparison alone value)) h ∙ of_plain alone (made_of_comparison alone value))

  pub between_alone : (asked : Test) (negated : Bool) (low high : ComparisonTree) → t ≡ predicate_tree value asked → asked ≡ test.Between negated low high → number_of_predicate t ≡ None
  between_alone asked negated low high e h = at asked e (ap (λ (a : Test). made_of_test alone a (made_of_comparison alone value)) h ∙ of_between alone negated low high (made_of_comparison alone value) ∙ if_negated negated)

  pub one_of_alone : (asked : Test) (negated : Bool) (list : List OrTree) → t ≡ predicate_tree value asked → asked ≡ test.OneOf negated list → number_of_predicate t ≡ None
  one_of_alone asked negated list e h = at asked e (ap (λ (a : Test). made_of_test alone a (made_of_comparison alone value)) h ∙ of_one_of alone negated list (made_of_comparison alone value) ∙ if_negated negated)

  pub like_alone : (asked : Test) (negated : Bool) (pattern : ComparisonTree) → t ≡ predicate_tree value asked → asked ≡ test.Like negated pattern → number_of_predicate t ≡ None
  like_alone asked negated pattern e h = at asked e (ap (λ (a : Test). made_of_test alone a (made_of_comparison alone value)) h ∙ of_like alone negated pattern (made_of_comparison alone value) ∙ if_negated negated)

  pub is_alone : (asked : Test) (negated : Bool) (truth : Truth) → t ≡ predicate_tree value asked → asked ≡ test.Is negated truth → number_of_predicate t ≡ None
  is_alone asked negated truth e h = at asked e (ap (λ (a : Test). made_of_test alone a (made_of_comparison alone value)) h ∙ of_is alone negated truth (made_of_comparison alone value) ∙ if_negated negated)

-- operands
module _ (t : PrimaryTree) where
  of : (u : PrimaryTree) {a : Alone} → t ≡ u → made_of_primary alone u ≡ a → number_of_primary t ≡ number_of a
  unfolding number_of_primary
  of u e h = ap (λ (tree : PrimaryTree). number_of (made_of_primary alone tree)) e ∙ seen h

  pub column_alone : (name : List ℕ) → t ≡ primary.Column name → number_of_primary t ≡ None
  column_alone name e = of (primary.Column name) e (of_column alone name)

  pub table_column_alone : (table name : List ℕ) → t ≡ primary.TableColumn table name → number_of_primary t ≡ None
  table_column_alone table name e = of (primary.TableColumn table name) e (of_table_column alone table name)

  pub paren_alone : (value : OrTree) → t ≡ primary.Paren value → number_of_primary t ≡ number_of_or value
  unfolding number_of_or
  paren_alone value e = of (primary.Paren value) e (of_paren alone value)

  pub number_alone : (negative : Bool) (n : ℕ) (long : Bool) → t ≡ primary.Number negative n long → number_of_primary t ≡ Some (negative, n)
  number_alone negative n long e = of (primary.Number negative n long) e (of_number alone negative n long)

  pub literal_alone : (content : List ℕ) → t ≡ primary.Literal content → number_of_primary t ≡ None
  literal_alone content e = of (primary.Literal content) e (of_literal alone content)

  pub boolean_alone : (b : Bool) → t ≡ primary.Boolean b → number_of_primary t ≡ None
  boolean_alone b e = of (primary.Boolean b) e (of_boolean alone b)

  pub null_alone : t ≡ primary.Null → number_of_primary t ≡ None
  null_alone e = of primary.Null e (of_null alone)

  pub cast_alone : (value : OrTree) (kind : SqlType) → t ≡ primary.Cast value kind → number_of_primary t ≡ None
  cast_alone value kind e = of (primary.Cast value kind) e (of_cast alone value kind)

  pub case_alone : (operand : Option OrTree) (arms : List Arm) (otherwise : Option OrTree) → t ≡ primary.Case operand arms otherwise → number_of_primary t ≡ None
  case_alone operand arms otherwise e = of (primary.Case operand arms otherwise) e (of_case alone operand arms otherwise)

  pub count_all_alone : t ≡ primary.CountAll → number_of_primary t ≡ None
  count_all_alone e = of primary.CountAll e (of_count_all alone)

  pub call_alone : (name : List ℕ) (arguments : List OrTree) → t ≡ primary.Call name arguments → number_of_primary t ≡ None
  call_alone name arguments e = of (primary.Call name arguments) e (of_call alone name arguments)

-- the tree as a whole
pub number_at_all : (tree : OrTree) → number_of_or tree ≡ number_of (made_of alone tree)
unfolding number_of_or
number_at_all tree = refl

pub ruleset numbers_alone = (or_alone, or_not_alone, and_alone, and_not_alone, not_alone, not_not_alone, plain_alone, between_alone, one_of_alone, like_alone, is_alone, comparison_alone, comparison_not_alone, sum_alone, sum_not_alone, product_alone, product_not_alone, sign_alone, sign_not_alone, column_alone, table_column_alone, paren_alone, number_alone, literal_alone, boolean_alone, null_alone, cast_alone, case_alone, count_all_alone, call_alone)
