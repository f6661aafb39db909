-- The grammar of expressions: which tree begins a list of terminals, and what it leaves of them.
--
-- `IsOr tree ts us` says that the terminals ts begin with a spelling of the tree, and that us is left behind it.
-- A constructor stands for an alternative of the grammar.
use Rattle.std.specs.Prelude.{ℕ, List, [], ◌∷◌, Bool, true, false, Option, Some, None, ◌≡◌, ◌≤◌, suc, zero}
use Rattle.aqe_values.specs.declared.sql_type.SqlType.{SqlType}
use Rattle.aqe_trees.specs.declared.terminal.Key.TheVariants as k
use Rattle.aqe_trees.specs.declared.terminal.Terminal.{Terminal}
use Rattle.aqe_trees.specs.declared.terminal.Terminal.TheVariants.{Fixed, Name, Number, Literal}
use Rattle.aqe_trees.specs.declared.expression.OrTree.{OrTree}
use Rattle.aqe_trees.specs.declared.expression.AndTree.{AndTree}
use Rattle.aqe_trees.specs.declared.expression.NotTree.{NotTree}
use Rattle.aqe_trees.specs.declared.expression.PredicateTree.{PredicateTree}
use Rattle.aqe_trees.specs.declared.expression.Test.{Test}
use Rattle.aqe_trees.specs.declared.expression.Test.TheVariants as test
use Rattle.aqe_trees.specs.declared.expression.Truth.{Truth}
use Rattle.aqe_trees.specs.declared.expression.CompareOp.{CompareOp}
use Rattle.aqe_trees.specs.declared.expression.ComparisonTree.{ComparisonTree}
use Rattle.aqe_trees.specs.declared.expression.Sign.{Sign}
use Rattle.aqe_trees.specs.declared.expression.SumTree.{SumTree}
use Rattle.aqe_trees.specs.declared.expression.ProductOp.{ProductOp}
use Rattle.aqe_trees.specs.declared.expression.ProductTree.{ProductTree}
use Rattle.aqe_trees.specs.declared.expression.SignTree.{SignTree}
use Rattle.aqe_trees.specs.declared.expression.PrimaryTree.{PrimaryTree}
use Rattle.aqe_trees.specs.declared.expression.PrimaryTree.TheVariants as primary
use Rattle.aqe_trees.specs.declared.expression.Arm.{Arm}
use Rattle.aqe_trees.specs.Shapes.{or_tree, and_tree, not_tree, predicate_tree, comparison_tree, sum_tree, product_tree, sign_tree, arm}
use Rattle.aqe_trees.specs.Words.{compare_of, sum_of, product_of, truth_of, sign_at, type_of, is_word, count_word}

mutual
  -- or = and {OR and}
  pub data IsOr : OrTree → List Terminal → List Terminal → Type 0 where
    or_of : {first : AndTree} {rest : List AndTree} {ts vs us : List Terminal} →
        IsAnd first ts vs → IsOrRest rest vs us → IsOr (or_tree first rest) ts us

  pub data IsOrRest : List AndTree → List Terminal → List Terminal → Type 0 where
    or_end : {us : List Terminal} → IsOrRest [] us us
    or_more : {next : AndTree} {rest : List AndTree} {ts vs us : List Terminal} →
        IsAnd next ts vs → IsOrRest rest vs us → IsOrRest (next ∷ rest) (Fixed k.Or ∷ ts) us

  -- and = not {AND not}
  pub data IsAnd : AndTree → List Terminal → List Terminal → Type 0 where
    and_of : {first : NotTree} {rest : List NotTree} {ts vs us : List Terminal} →
        IsNot first ts vs → IsAndRest rest vs us → IsAnd (and_tree first rest) ts us

  pub data IsAndRest : List NotTree → List Terminal → List Terminal → Type 0 where
    and_end : {us : List Terminal} → IsAndRest [] us us
    and_more : {next : NotTree} {rest : List NotTree} {ts vs us : List Terminal} →
        IsNot next ts vs → IsAndRest rest vs us → IsAndRest (next ∷ rest) (Fixed k.And ∷ ts) us

  -- not = NOT not | predicate, the NOTs being counted
  pub data IsNot : NotTree → List Terminal → List Terminal → Type 0 where
    not_of : {count : ℕ} {operand : PredicateTree} {ts us : List Terminal} →
        IsNots count operand ts us → IsNot (not_tree count operand) ts us

  pub data IsNots : ℕ → PredicateTree → List Terminal → List Terminal → Type 0 where
    affirmed : {operand : PredicateTree} {ts us : List Terminal} →
        IsPredicate operand ts us → IsNots zero operand ts us
    negated : {count : ℕ} {operand : PredicateTree} {ts us : List Terminal} →
        IsNots count operand ts us → IsNots (suc count) operand (Fixed k.Not ∷ ts) us

  -- predicate = comparison [test]
  pub data IsPredicate : PredicateTree → List Terminal → List Terminal → Type 0 where
    predicate_of : {value : ComparisonTree} {test : Test} {ts vs us : List Terminal} →
        IsComparison value ts vs → IsTest test vs us → IsPredicate (predicate_tree value test) ts us

  -- test = [[NOT] BETWEEN comparison AND comparison | [NOT] IN ( or {, or} ) | [NOT] LIKE comparison
  --        | IS [NOT] (NULL | TRUE | FALSE)]
  pub data IsTest : Test → List Terminal → List Terminal → Type 0 where
    plain : {us : List Terminal} → IsTest test.Plain us us
    between : {low high : ComparisonTree} {ts vs us : List Terminal} →
        IsComparison low ts (Fixed k.And ∷ vs) → IsComparison high vs us →
        IsTest (test.Between false low high) (Fixed k.Between ∷ ts) us
    not_between : {low high : ComparisonTree} {ts vs us : List Terminal} →
        IsComparison low ts (Fixed k.And ∷ vs) → IsComparison high vs us →
        IsTest (test.Between true low high) (Fixed k.Not ∷ Fixed k.Between ∷ ts) us
    one_of : {list : List OrTree} {ts us : List Terminal} →
        IsList list ts (Fixed k.Close ∷ us) →
        IsTest (test.OneOf false list) (Fixed k.In ∷ Fixed k.Open ∷ ts) us
    not_one_of : {list : List OrTree} {ts us : List Terminal} →
        IsList list ts (Fixed k.Close ∷ us) →
        IsTest (test.OneOf true list) (Fixed k.Not ∷ Fixed k.In ∷ Fixed k.Open ∷ ts) us
    like : {pattern : ComparisonTree} {ts us : List Terminal} →
        IsComparison pattern ts us → IsTest (test.Like false pattern) (Fixed k.Like ∷ ts) us
    not_like : {pattern : ComparisonTree} {ts us : List Terminal} →
        IsComparison pattern ts us → IsTest (test.Like true pattern) (Fixed k.Not ∷ Fixed k.Like ∷ ts) us
    is_truth : {truth : Truth} {t : Terminal} {us : List Terminal} →
        truth_of t ≡ Some truth → IsTest (test.Is false truth) (Fixed k.Is ∷ t ∷ us) us
    is_not_truth : {truth : Truth} {t : Terminal} {us : List Terminal} →
        truth_of t ≡ Some truth → IsTest (test.Is true truth) (Fixed k.Is ∷ Fixed k.Not ∷ t ∷ us) us

  -- list = or {, or}
  pub data IsList : List OrTree → List Terminal → List Terminal → Type 0 where
    list_of : {first : OrTree} {rest : List OrTree} {ts vs us : List Terminal} →
        IsOr first ts vs → IsListRest rest vs us → IsList (first ∷ rest) ts us

  pub data IsListRest : List OrTree → List Terminal → List Terminal → Type 0 where
    list_end : {us : List Terminal} → IsListRest [] us us
    list_more : {next : OrTree} {rest : List OrTree} {ts vs us : List Terminal} →
        IsOr next ts vs → IsListRest rest vs us → IsListRest (next ∷ rest) (Fixed k.Comma ∷ ts) us

  -- comparison = sum {(= | == | <=> | <> | != | < | <= | > | >=) sum}
  pub data IsComparison : ComparisonTree → List Terminal → List Terminal → Type 0 where
    comparison_of : {first : SumTree} {rest : List (CompareOp × SumTree)} {ts vs us : List Terminal} →
        IsSum first ts vs → IsComparisonRest rest vs us → IsComparison (comparison_tree first rest) ts us

  pub data IsComparisonRest : List (CompareOp × SumTree) → List Terminal → List Terminal → Type 0 where
    comparison_end : {us : List Terminal} → IsComparisonRest [] us us
    comparison_more : {op : CompareOp} {next : SumTree} {rest : List (CompareOp × SumTree)} {t : Terminal} {ts vs us : List Terminal} →
        compare_of t ≡ Some op → IsSum next ts vs → IsComparisonRest rest vs us →
        IsComparisonRest ((op, next) ∷ rest) (t ∷ ts) us

  -- sum = product {(+ | -) product}
  pub data IsSum : SumTree → List Terminal → List Terminal → Type 0 where
    sum_of_products : {first : ProductTree} {rest : List (Sign × ProductTree)} {ts vs us : List Terminal} →
        IsProduct first ts vs → IsSumRest rest vs us → IsSum (sum_tree first rest) ts us

  pub data IsSumRest : List (Sign × ProductTree) → List Terminal → List Terminal → Type 0 where
    sum_end : {us : List Terminal} → IsSumRest [] us us
    sum_more : {op : Sign} {next : ProductTree} {rest : List (Sign × ProductTree)} {t : Terminal} {ts vs us : List Terminal} →
        sum_of t ≡ Some op → IsProduct next ts vs → IsSumRest rest vs us → IsSumRest ((op, next) ∷ rest) (t ∷ ts) us

  -- product = sign {(* | % | DIV) sign}
  pub data IsProduct : ProductTree → List Terminal → List Terminal → Type 0 where
    product_of_signs : {first : SignTree} {rest : List (ProductOp × SignTree)} {ts vs us : List Terminal} →
        IsSign first ts vs → IsProductRest rest vs us → IsProduct (product_tree first rest) ts us

  pub data IsProductRest : List (ProductOp × SignTree) → List Terminal → List Terminal → Type 0 where
    product_end : {us : List Terminal} → IsProductRest [] us us
    product_more : {op : ProductOp} {next : SignTree} {rest : List (ProductOp × SignTree)} {t : Terminal} {ts vs us : List Terminal} →
        product_of t ≡ Some op → IsSign next ts vs → IsProductRest rest vs us →
        IsProductRest ((op, next) ∷ rest) (t ∷ ts) us

  -- sign = - sign | + sign | primary, the signs being listed
  pub data IsSign : SignTree → List Terminal → List Terminal → Type 0 where
    sign_of : {signs : List Sign} {operand : PrimaryTree} {ts us : List Terminal} →
        IsSigns signs operand ts us → IsSign (sign_tree signs operand) ts us

  pub data IsSigns : List Sign → PrimaryTree → List Terminal → List Terminal → Type 0 where
    unsigned : {operand : PrimaryTree} {ts us : List Terminal} →
        IsPrimary operand ts us → IsSigns [] operand ts us
    signed : {op : Sign} {signs : List Sign} {operand : PrimaryTree} {t : Terminal} {ts us : List Terminal} →
        sign_at (t ∷ ts) ≡ Some op → IsSigns signs operand ts us → IsSigns (op ∷ signs) operand (t ∷ ts) us

  -- primary = number | string | TRUE | FALSE | NULL | name [. name] | ( or ) | CAST ( or AS type )
  --         | CASE [or] WHEN or THEN or {WHEN or THEN or} [ELSE or] END | count ( * ) | name ( or {, or} )
  -- A `-` directly before a number is one literal with it, and 9223372036854775808 stands only so.
  pub data IsPrimary : PrimaryTree → List Terminal → List Terminal → Type 0 where
    number : {value : ℕ} {long : Bool} {us : List Terminal} → value ≤ 9223372036854775807 →
        IsPrimary (primary.Number false value long) (Number value long ∷ us) us
    negative_number : {value : ℕ} {long : Bool} {us : List Terminal} →
        IsPrimary (primary.Number true value long) (Fixed k.Minus ∷ Number value long ∷ us) us
    literal : {text : List ℕ} {us : List Terminal} → IsPrimary (primary.Literal text) (Literal text ∷ us) us
    is_true : {us : List Terminal} → IsPrimary (primary.Boolean true) (Fixed k.True ∷ us) us
    is_false : {us : List Terminal} → IsPrimary (primary.Boolean false) (Fixed k.False ∷ us) us
    null : {us : List Terminal} → IsPrimary primary.Null (Fixed k.Null ∷ us) us
    column : {name : List ℕ} {quoted : Bool} {us : List Terminal} →
        IsPrimary (primary.Column name) (Name name quoted ∷ us) us
    table_column : {table name : List ℕ} {a b : Bool} {us : List Terminal} →
        IsPrimary (primary.TableColumn table name) (Name table a ∷ Fixed k.Dot ∷ Name name b ∷ us) us
    paren : {value : OrTree} {ts us : List Terminal} →
        IsOr value ts (Fixed k.Close ∷ us) → IsPrimary (primary.Paren value) (Fixed k.Open ∷ ts) us
    cast : {value : OrTree} {kind : SqlType} {t : Terminal} {ts us : List Terminal} →
        IsOr value ts (Fixed k.As ∷ t ∷ Fixed k.Close ∷ us) → type_of t ≡ Some kind →
        IsPrimary (primary.Cast value kind) (Fixed k.Cast ∷ Fixed k.Open ∷ ts) us
    case : {first : Arm} {rest : List Arm} {otherwise : Option OrTree} {ts us : List Terminal} →
        IsArms (first ∷ rest) otherwise ts us →
        IsPrimary (primary.Case None (first ∷ rest) otherwise) (Fixed k.Case ∷ ts) us
    case_of : {operand : OrTree} {first : Arm} {rest : List Arm} {otherwise : Option OrTree} {ts vs us : List Terminal} →
        IsOr operand ts vs → IsArms (first ∷ rest) otherwise vs us →
        IsPrimary (primary.Case (Some operand) (first ∷ rest) otherwise) (Fixed k.Case ∷ ts) us
    count_all : {name : List ℕ} {quoted : Bool} {us : List Terminal} → is_word count_word name ≡ true →
        IsPrimary primary.CountAll (Name name quoted ∷ Fixed k.Open ∷ Fixed k.Star ∷ Fixed k.Close ∷ us) us
    call : {name : List ℕ} {quoted : Bool} {arguments : List OrTree} {ts us : List Terminal} →
        IsList arguments ts (Fixed k.Close ∷ us) →
        IsPrimary (primary.Call name arguments) (Name name quoted ∷ Fixed k.Open ∷ ts) us

  -- arms = {WHEN or THEN or} [ELSE or] END
  pub data IsArms : List Arm → Option OrTree → List Terminal → List Terminal → Type 0 where
    end : {us : List Terminal} → IsArms [] None (Fixed k.End ∷ us) us
    otherwise : {value : OrTree} {ts us : List Terminal} →
        IsOr value ts (Fixed k.End ∷ us) → IsArms [] (Some value) (Fixed k.Else ∷ ts) us
    when : {when gives : OrTree} {rest : List Arm} {otherwise : Option OrTree} {ts vs ws us : List Terminal} →
        IsOr when ts (Fixed k.Then ∷ vs) → IsOr gives vs ws → IsArms rest otherwise ws us →
        IsArms (arm when gives ∷ rest) otherwise (Fixed k.When ∷ ts) us
