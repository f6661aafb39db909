-- What is left behind an expression of a source stands in the source.
use Rattle.std.proofs.Common.{ℕ, List}
use Rattle.std.specs.Prelude.{Option}
use Rattle.aqe_trees.specs.declared.terminal.Terminal.{Terminal}
use Rattle.aqe_trees.specs.declared.expression.OrTree.{OrTree}
use Rattle.aqe_trees.specs.declared.expression.AndTree.{AndTree}
use Rattle.aqe_trees.specs.declared.expression.NotTree.{NotTree}
use Rattle.aqe_trees.specs.declared.expression.PredicateTree.{PredicateTree}
use Rattle.aqe_trees.specs.declared.expression.Test.{Test}
use Rattle.aqe_trees.specs.declared.expression.CompareOp.{CompareOp}
use Rattle.aqe_trees.specs.declared.expression.ComparisonTree.{ComparisonTree}
use Rattle.aqe_trees.specs.declared.expression.Sign.{Sign}
use Rattle.aqe_trees.specs.declared.expression.SumTree.{SumTree}
use Rattle.aqe_trees.specs.declared.expression.ProductOp.{ProductOp}
use Rattle.aqe_trees.specs.declared.expression.ProductTree.{ProductTree}
use Rattle.aqe_trees.specs.declared.expression.SignTree.{SignTree}
use Rattle.aqe_trees.specs.declared.expression.PrimaryTree.{PrimaryTree}
use Rattle.aqe_trees.specs.declared.expression.Arm.{Arm}
use Rattle.aqe_trees.specs.Expressions.{IsOr, or_of, IsOrRest, or_end, or_more, IsAnd, and_of, IsAndRest, and_end, and_more, IsNot, not_of, IsNots, affirmed, negated, IsPredicate, predicate_of, IsTest, plain, between, not_between, one_of, not_one_of, like, not_like, is_truth, is_not_truth, IsList, list_of, IsListRest, list_end, list_more, IsComparison, comparison_of, IsComparisonRest, comparison_end, comparison_more, IsSum, sum_of_products, IsSumRest, sum_end, sum_more, IsProduct, product_of_signs, IsProductRest, product_end, product_more, IsSign, sign_of, IsSigns, unsigned, signed, IsPrimary, number, negative_number, literal, is_true, is_false, null, column, table_column, paren, cast, case, case_of, count_all, call, IsArms, end, otherwise, when}
use Rattle.aqe_phrases.specs.Written.{AllStand}

mutual
  pub left_or : {tree : OrTree} {ts us : List Terminal} → IsOr tree ts us → AllStand ts → AllStand us
  left_or (or_of d r) s = left_or_rest r (left_and d s)

  pub left_or_rest : {tree : List AndTree} {ts us : List Terminal} → IsOrRest tree ts us → AllStand ts → AllStand us
  left_or_rest or_end s = s
  left_or_rest (or_more d r) s = left_or_rest r (left_and d s.1)

  pub left_and : {tree : AndTree} {ts us : List Terminal} → IsAnd tree ts us → AllStand ts → AllStand us
  left_and (and_of d r) s = left_and_rest r (left_not d s)

  pub left_and_rest : {tree : List NotTree} {ts us : List Terminal} → IsAndRest tree ts us → AllStand ts → AllStand us
  left_and_rest and_end s = s
  left_and_rest (and_more d r) s = left_and_rest r (left_not d s.1)

  pub left_not : {tree : NotTree} {ts us : List Terminal} → IsNot tree ts us → AllStand ts → AllStand us
  left_not (not_of d) s = left_nots d s

  pub left_nots : {count : ℕ} {tree : PredicateTree} {ts us : List Terminal} → IsNots count tree ts us → AllStand ts → AllStand us
  left_nots (affirmed d) s = left_predicate d s
  left_nots (negated d) s = left_nots d s.1

  pub left_predicate : {tree : PredicateTree} {ts us : List Terminal} → IsPredicate tree ts us → AllStand ts → AllStand us
  left_predicate (predicate_of d e) s = left_test e (left_comparison d s)

  pub left_test : {tree : Test} {ts us : List Terminal} → IsTest tree ts us → AllStand ts → AllStand us
  left_test plain s = s
  left_test (between d e) s = left_comparison e (left_comparison d s.1).1
  left_test (not_between d e) s = left_comparison e (left_comparison d s.1.1).1
  left_test (one_of d) s = (left_list d s.1.1).1
  left_test (not_one_of d) s = (left_list d s.1.1.1).1
  left_test (like d) s = left_comparison d s.1
  left_test (not_like d) s = left_comparison d s.1.1
  left_test (is_truth e) s = s.1.1
  left_test (is_not_truth e) s = s.1.1.1

  pub left_list : {tree : List OrTree} {ts us : List Terminal} → IsList tree ts us → AllStand ts → AllStand us
  left_list (list_of d r) s = left_list_rest r (left_or d s)

  pub left_list_rest : {tree : List OrTree} {ts us : List Terminal} → IsListRest tree ts us → AllStand ts → AllStand us
  left_list_rest list_end s = s
  left_list_rest (list_more d r) s = left_list_rest r (left_or d s.1)

  pub left_comparison : {tree : ComparisonTree} {ts us : List Terminal} → IsComparison tree ts us → AllStand ts → AllStand us
  left_comparison (comparison_of d r) s = left_comparison_rest r (left_sum d s)

  pub left_comparison_rest : {tree : List (CompareOp × SumTree)} {ts us : List Terminal} → IsComparisonRest tree ts us → AllStand ts → AllStand us
  left_comparison_rest comparison_end s = s
  left_comparison_rest (comparison_more e d r) s = left_comparison_rest r (left_sum d s.1)

  pub left_sum : {tree : SumTree} {ts us : List Terminal} → IsSum tree ts us → AllStand ts → AllStand us
  left_sum (sum_of_products d r) s = left_sum_rest r (left_product d s)

  pub left_sum_rest : {tree : List (Sign × ProductTree)} {ts us : List Terminal} → IsSumRest tree ts us → AllStand ts → AllStand us
  left_sum_rest sum_end s = s
  left_sum_rest (sum_more e d r) s = left_sum_rest r (left_product d s.1)

  pub left_product : {tree : ProductTree} {ts us : List Terminal} → IsProduct tree ts us → AllStand ts → AllStand us
  left_product (product_of_signs d r) s = left_product_rest r (left_sign d s)

  pub left_product_rest : {tree : List (ProductOp × SignTree)} {ts us : List Terminal} → IsProductRest tree ts us → AllStand ts → AllStand us
  left_product_rest product_end s = s
  left_product_rest (product_more e d r) s = left_product_rest r (left_sign d s.1)

  pub left_sign : {tree : SignTree} {ts us : List Terminal} → IsSign tree ts us → AllStand ts → AllStand us
  left_sign (sign_of d) s = left_signs d s

  pub left_signs : {signs : List Sign} {tree : PrimaryTree} {ts us : List Terminal} → IsSigns signs tree ts us → AllStand ts → AllStand us
  left_signs (unsigned d) s = left_primary d s
  left_signs (signed e d) s = left_signs d s.1

  pub left_primary : {tree : PrimaryTree} {ts us : List Terminal} → IsPrimary tree ts us → AllStand ts → AllStand us
  left_primary (number b) s = s.1
  left_primary negative_number s = s.1.1
  left_primary literal s = s.1
  left_primary is_true s = s.1
  left_primary is_false s = s.1
  left_primary null s = s.1
  left_primary column s = s.1
  left_primary table_column s = s.1.1.1
  left_primary (paren d) s = (left_or d s.1).1
  left_primary (cast d e) s = (left_or d s.1.1).1.1.1
  left_primary (case d) s = left_arms d s.1
  left_primary (case_of d e) s = left_arms e (left_or d s.1)
  left_primary (count_all e) s = s.1.1.1.1
  left_primary (call d) s = (left_list d s.1.1).1

  pub left_arms : {arms : List Arm} {tree : Option OrTree} {ts us : List Terminal} → IsArms arms tree ts us → AllStand ts → AllStand us
  left_arms end s = s.1
  left_arms (otherwise d) s = (left_or d s.1).1
  left_arms (when d e r) s = left_arms r (left_or e (left_or d s.1).1)
