-- What each rule keeps, each expression has.
use Rattle.std.proofs.Common.{ℕ, zero, suc, List, [], ◌∷◌, map, Bool, true, false, Option, Some, None, sym}
use Rattle.std.specs.Prelude.{All}
use Rattle.std.proofs.lemmas.List.Elements.{All-nil, All-cons, All-head, All-tail}
use Rattle.aqe_values.specs.declared.sql_type.SqlType.{SqlType}
use Rattle.aqe_trees.specs.declared.expression.OrTree.{OrTree, ind-OrTree, fold-roll-OrTree}
use Rattle.aqe_trees.specs.declared.expression.AndTree.{AndTree, fold-AndTree, fold-roll-AndTree}
use Rattle.aqe_trees.specs.declared.expression.NotTree.{NotTree, fold-NotTree, fold-roll-NotTree}
use Rattle.aqe_trees.specs.declared.expression.PredicateTree.{PredicateTree, fold-PredicateTree, fold-roll-PredicateTree}
use Rattle.aqe_trees.specs.declared.expression.Test.{Test, Test-F, fold-Test, fold-roll-Test}
use Rattle.aqe_trees.specs.declared.expression.ComparisonTree.{ComparisonTree, fold-ComparisonTree, fold-roll-ComparisonTree}
use Rattle.aqe_trees.specs.declared.expression.CompareOp.{CompareOp}
use Rattle.aqe_trees.specs.declared.expression.SumTree.{SumTree, fold-SumTree, fold-roll-SumTree}
use Rattle.aqe_trees.specs.declared.expression.Sign.{Sign}
use Rattle.aqe_trees.specs.declared.expression.ProductTree.{ProductTree, fold-ProductTree, fold-roll-ProductTree}
use Rattle.aqe_trees.specs.declared.expression.ProductOp.{ProductOp}
use Rattle.aqe_trees.specs.declared.expression.Truth.{Truth}
use Rattle.aqe_trees.specs.declared.expression.SignTree.{SignTree, fold-SignTree, fold-roll-SignTree}
use Rattle.aqe_trees.specs.declared.expression.PrimaryTree.{PrimaryTree, PrimaryTree-F, fold-PrimaryTree, fold-roll-PrimaryTree}
use Rattle.aqe_trees.specs.declared.expression.Arm.{Arm, fold-Arm, fold-roll-Arm}
use Rattle.aqe_rules.specs.Forms.{Forms}
use Rattle.aqe_rules.specs.Trees.{times, under_signs, negated_if, chain, chain_of_one, primary_level, test_level, and_level, arm_level, comparison_level, not_level, or_level, predicate_level, product_level, sign_level, sum_level, made_of}
use Rattle.aqe_rules.proofs.Gives.{IfAny}

-- a property of what is made of expressions that each rule keeps
pub record Keeps (A : Type 0) (rule : Forms A) (P : A → Type 0) : Type 0 where
  pub number : (negative : Bool) (n : ℕ) (long : Bool) → P (rule.number negative n long)
  pub literal : (content : List ℕ) → P (rule.literal content)
  pub boolean : (b : Bool) → P (rule.boolean b)
  pub null : P rule.null
  pub column : (name : List ℕ) → P (rule.column name)
  pub table_column : (table name : List ℕ) → P (rule.table_column table name)
  pub paren : (a : A) → P a → P (rule.paren a)
  pub cast : (kind : SqlType) (a : A) → P a → P (rule.cast kind a)
  pub case : (a : Option A) (arms : List (A × A)) (e : Option A) → IfAny P a → All (λ arm. P arm.0 × P arm.1) arms → IfAny P e → P (rule.case a arms e)
  pub count_all : P rule.count_all
  pub call : (name : List ℕ) (all : List A) → All P all → P (rule.call name all)
  pub with_sign : (op : Sign) (a : A) → P a → P (rule.with_sign op a)
  pub product : (op : ProductOp) (a b : A) → P a → P b → P (rule.product op a b)
  pub sum : (op : Sign) (a b : A) → P a → P b → P (rule.sum op a b)
  pub compare : (op : CompareOp) (a b : A) → P a → P b → P (rule.compare op a b)
  pub between : (a b c : A) → P a → P b → P c → P (rule.between a b c)
  pub in_list : (a : A) (all : List A) → P a → All P all → P (rule.in_list a all)
  pub like : (a b : A) → P a → P b → P (rule.like a b)
  pub is : (truth : Truth) (a : A) → P a → P (rule.is truth a)
  pub negation : (a : A) → P a → P (rule.negation a)
  pub both : (a b : A) → P a → P b → P (rule.both a b)
  pub either : (a b : A) → P a → P b → P (rule.either a b)

module _ (A : Type 0) (rule : Forms A) (P : A → Type 0) (k : Keeps A rule P) where
  abbrev of_primary : PrimaryTree → A
  of_primary = fold-PrimaryTree A (A → A) A (A × A) A A A A A A A (primary_level rule) (test_level rule) (and_level rule) (arm_level rule) (comparison_level rule) (not_level rule) (or_level rule) (predicate_level rule) (product_level rule) (sign_level rule) (sum_level rule)

  abbrev of_test : Test → A → A
  of_test = fold-Test A (A → A) A (A × A) A A A A A A A (primary_level rule) (test_level rule) (and_level rule) (arm_level rule) (comparison_level rule) (not_level rule) (or_level rule) (predicate_level rule) (product_level rule) (sign_level rule) (sum_level rule)

  abbrev of_and : AndTree → A
  of_and = fold-AndTree A (A → A) A (A × A) A A A A A A A (primary_level rule) (test_level rule) (and_level rule) (arm_level rule) (comparison_level rule) (not_level rule) (or_level rule) (predicate_level rule) (product_level rule) (sign_level rule) (sum_level rule)

  abbrev of_arm : Arm → A × A
  of_arm = fold-Arm A (A → A) A (A × A) A A A A A A A (primary_level rule) (test_level rule) (and_level rule) (arm_level rule) (comparison_level rule) (not_level rule) (or_level rule) (predicate_level rule) (product_level rule) (sign_level rule) (sum_level rule)

  abbrev of_comparison : ComparisonTree → A
  of_comparison = fold-ComparisonTree A (A → A) A (A × A) A A A A A A A (primary_level rule) (test_level rule) (and_level rule) (arm_level rule) (comparison_level rule) (not_level rule) (or_level rule) (predicate_level rule) (product_level rule) (sign_level rule) (sum_level rule)

  abbrev of_not : NotTree → A
  of_not = fold-NotTree A (A → A) A (A × A) A A A A A A A (primary_level rule) (test_level rule) (and_level rule) (arm_level rule) (comparison_level rule) (not_level rule) (or_level rule) (predicate_level rule) (product_level rule) (sign_level rule) (sum_level rule)

  abbrev of_predicate : PredicateTree → A
  of_predicate = fold-PredicateTree A (A → A) A (A × A) A A A A A A A (primary_level rule) (test_level rule) (and_level rule) (arm_level rule) (comparison_level rule) (not_level rule) (or_level rule) (predicate_level rule) (product_level rule) (sign_level rule) (sum_level rule)

  abbrev of_product : ProductTree → A
  of_product = fold-ProductTree A (A → A) A (A × A) A A A A A A A (primary_level rule) (test_level rule) (and_level rule) (arm_level rule) (comparison_level rule) (not_level rule) (or_level rule) (predicate_level rule) (product_level rule) (sign_level rule) (sum_level rule)

  abbrev of_sign : SignTree → A
  of_sign = fold-SignTree A (A → A) A (A × A) A A A A A A A (primary_level rule) (test_level rule) (and_level rule) (arm_level rule) (comparison_level rule) (not_level rule) (or_level rule) (predicate_level rule) (product_level rule) (sign_level rule) (sum_level rule)

  abbrev of_sum : SumTree → A
  of_sum = fold-SumTree A (A → A) A (A × A) A A A A A A A (primary_level rule) (test_level rule) (and_level rule) (arm_level rule) (comparison_level rule) (not_level rule) (or_level rule) (predicate_level rule) (product_level rule) (sign_level rule) (sum_level rule)

  -- operators of one level
  chain-keeps : {B : Type 0} (op : B → A → A → A) → ((b : B) (x y : A) → P x → P y → P (op b x y)) → (a : A) (all : List (B × A)) → P a → All (λ next. P next.1) all → P (chain op a all)
  chain-keeps op h a [] p all = p
  chain-keeps op h a (next ∷ rest) p all =
      chain-keeps op h (op next.0 a next.1) rest (h next.0 a next.1 p (All-head (λ n. P n.1) next rest all)) (All-tail (λ n. P n.1) next rest all)

  chain_of_one-keeps : (op : A → A → A) → ((x y : A) → P x → P y → P (op x y)) → (a : A) (all : List A) → P a → All P all → P (chain_of_one op a all)
  chain_of_one-keeps op h a [] p all = p
  chain_of_one-keeps op h a (b ∷ rest) p all = chain_of_one-keeps op h (op a b) rest (h a b p (All-head P b rest all)) (All-tail P b rest all)

  times-keeps : (n : ℕ) (a : A) → P a → P (times rule.negation n a)
  times-keeps zero a p = p
  times-keeps (suc n) a p = k.negation (times rule.negation n a) (times-keeps n a p)

  signs-keep : (signs : List Sign) (a : A) → P a → P (under_signs rule signs a)
  signs-keep [] a p = p
  signs-keep (sign ∷ signs) a p = k.with_sign sign (under_signs rule signs a) (signs-keep signs a p)

  negated-keeps : (b : Bool) (a : A) → P a → P (negated_if rule b a)
  negated-keeps true a p = k.negation a p
  negated-keeps false a p = p

  -- trees of one level, each with its proof
  proved : {X Y : Type 0} (Q : Y → Type 0) (R : X → Type 0) (f : X → Y) → ((x : X) → R x → Q (f x)) → (all : List ((x : X) × R x)) → All Q (map f (map (λ e. e.0) all))
  proved Q R f h [] = All-nil Q
  proved Q R f h (e ∷ es) = All-cons Q (f e.0) (map f (map (λ d. d.0) es)) (h e.0 e.1) (proved Q R f h es)

  -- the same of operands with their operators
  abbrev behind : {B X Y : Type 0} → (X → Y) → B × X → B × Y
  behind f q = (q.0, f q.1)

  abbrev ends : {B Y : Type 0} → (Y → Type 0) → B × Y → Type 0
  ends Q q = Q q.1

  abbrev tree_in : {X : Type 0} (R : X → Type 0) → ((x : X) × R x) → X
  tree_in R e = e.0

  pairs_proved : {B X Y : Type 0} (Q : Y → Type 0) (R : X → Type 0) (f : X → Y) → ((x : X) → R x → Q (f x)) → (all : List (B × ((x : X) × R x))) → All (ends Q) (map (behind f) (map (behind (tree_in R)) all))
  pairs_proved Q R f h [] = All-nil (ends Q)
  pairs_proved Q R f h (e ∷ es) = All-cons (ends Q) (behind f (behind (tree_in R) e)) (map (behind f) (map (behind (tree_in R)) es)) (h (e.1).0 (e.1).1) (pairs_proved Q R f h es)

  pub made_of-keeps : (t : OrTree) → P (made_of rule t)
  made_of-keeps = ind-OrTree
      (λ t. P (of_primary t)) (λ t. (a : A) → P a → P (of_test t a)) (λ t. P (of_and t)) (λ t. P (of_arm t).0 × P (of_arm t).1)
      (λ t. P (of_comparison t)) (λ t. P (of_not t)) (λ t. P (made_of rule t)) (λ t. P (of_predicate t)) (λ t. P (of_product t)) (λ t. P (of_sign t)) (λ t. P (of_sum t))
      (λ x. elim [
        | PrimaryTree-F.Number negative n long ↦ λ is. rw (fold-roll-PrimaryTree A (A → A) A (A × A) A A A A A A A (primary_level rule) (test_level rule) (and_level rule) (arm_level rule) (comparison_level rule) (not_level rule) (or_level rule) (predicate_level rule) (product_level rule) (sign_level rule) (sum_level rule) x, sym is) (k.number negative n long)
        | PrimaryTree-F.Literal content ↦ λ is. rw (fold-roll-PrimaryTree A (A → A) A (A × A) A A A A A A A (primary_level rule) (test_level rule) (and_level rule) (arm_level rule) (comparison_level rule) (not_level rule) (or_level rule) (predicate_level rule) (product_level rule) (sign_level rule) (sum_level rule) x, sym is) (k.literal content)
        | PrimaryTree-F.Boolean b ↦ λ is. rw (fold-roll-PrimaryTree A (A → A) A (A × A) A A A A A A A (primary_level rule) (test_level rule) (and_level rule) (arm_level rule) (comparison_level rule) (not_level rule) (or_level rule) (predicate_level rule) (product_level rule) (sign_level rule) (sum_level rule) x, sym is) (k.boolean b)
        | PrimaryTree-F.Null ↦ λ is. rw (fold-roll-PrimaryTree A (A → A) A (A × A) A A A A A A A (primary_level rule) (test_level rule) (and_level rule) (arm_level rule) (comparison_level rule) (not_level rule) (or_level rule) (predicate_level rule) (product_level rule) (sign_level rule) (sum_level rule) x, sym is) (k.null)
        | PrimaryTree-F.Column name ↦ λ is. rw (fold-roll-PrimaryTree A (A → A) A (A × A) A A A A A A A (primary_level rule) (test_level rule) (and_level rule) (arm_level rule) (comparison_level rule) (not_level rule) (or_level rule) (predicate_level rule) (product_level rule) (sign_level rule) (sum_level rule) x, sym is) (k.column name)
        | PrimaryTree-F.TableColumn table name ↦ λ is. rw (fold-roll-PrimaryTree A (A → A) A (A × A) A A A A A A A (primary_level rule) (test_level rule) (and_level rule) (arm_level rule) (comparison_level rule) (not_level rule) (or_level rule) (predicate_level rule) (product_level rule) (sign_level rule) (sum_level rule) x, sym is) (k.table_column table name)
        | PrimaryTree-F.Paren t ↦ λ is. rw (fold-roll-PrimaryTree A (A → A) A (A × A) A A A A A A A (primary_level rule) (test_level rule) (and_level rule) (arm_level rule) (comparison_level rule) (not_level rule) (or_level rule) (predicate_level rule) (product_level rule) (sign_level rule) (sum_level rule) x, sym is) (k.paren (made_of rule t.0) t.1)
        | PrimaryTree-F.Cast t kind ↦ λ is. rw (fold-roll-PrimaryTree A (A → A) A (A × A) A A A A A A A (primary_level rule) (test_level rule) (and_level rule) (arm_level rule) (comparison_level rule) (not_level rule) (or_level rule) (predicate_level rule) (product_level rule) (sign_level rule) (sum_level rule) x, sym is) (k.cast kind (made_of rule t.0) t.1)
        | PrimaryTree-F.Case None arms None ↦ λ is. rw (fold-roll-PrimaryTree A (A → A) A (A × A) A A A A A A A (primary_level rule) (test_level rule) (and_level rule) (arm_level rule) (comparison_level rule) (not_level rule) (or_level rule) (predicate_level rule) (product_level rule) (sign_level rule) (sum_level rule) x, sym is) (k.case None (map of_arm (map (λ t. t.0) arms)) None tt (proved (λ arm. P arm.0 × P arm.1) (λ t. P (of_arm t).0 × P (of_arm t).1) of_arm (λ t p. p) arms) tt)
        | PrimaryTree-F.Case None arms (Some e) ↦ λ is. rw (fold-roll-PrimaryTree A (A → A) A (A × A) A A A A A A A (primary_level rule) (test_level rule) (and_level rule) (arm_level rule) (comparison_level rule) (not_level rule) (or_level rule) (predicate_level rule) (product_level rule) (sign_level rule) (sum_level rule) x, sym is) (k.case None (map of_arm (map (λ t. t.0) arms)) (Some (made_of rule e.0)) tt (proved (λ arm. P arm.0 × P arm.1) (λ t. P (of_arm t).0 × P (of_arm t).1) of_arm (λ t p. p) arms) e.1)
        | PrimaryTree-F.Case (Some a) arms None ↦ λ is. rw (fold-roll-PrimaryTree A (A → A) A (A × A) A A A A A A A (primary_level rule) (test_level rule) (and_level rule) (arm_level rule) (comparison_level rule) (not_level rule) (or_level rule) (predicate_level rule) (product_level rule) (sign_level rule) (sum_level rule) x, sym is) (k.case (Some (made_of rule a.0)) (map of_arm (map (λ t. t.0) arms)) None a.1 (proved (λ arm. P arm.0 × P arm.1) (λ t. P (of_arm t).0 × P (of_arm t).1) of_arm (λ t p. p) arms) tt)
        | PrimaryTree-F.Case (Some a) arms (Some e) ↦ λ is. rw (fold-roll-PrimaryTree A (A → A) A (A × A) A A A A A A A (primary_level rule) (test_level rule) (and_level rule) (arm_level rule) (comparison_level rule) (not_level rule) (or_level rule) (predicate_level rule) (product_level rule) (sign_level rule) (sum_level rule) x, sym is) (k.case (Some (made_of rule a.0)) (map of_arm (map (λ t. t.0) arms)) (Some (made_of rule e.0)) a.1 (proved (λ arm. P arm.0 × P arm.1) (λ t. P (of_arm t).0 × P (of_arm t).1) of_arm (λ t p. p) arms) e.1)
        | PrimaryTree-F.CountAll ↦ λ is. rw (fold-roll-PrimaryTree A (A → A) A (A × A) A A A A A A A (primary_level rule) (test_level rule) (and_level rule) (arm_level rule) (comparison_level rule) (not_level rule) (or_level rule) (predicate_level rule) (product_level rule) (sign_level rule) (sum_level rule) x, sym is) (k.count_all)
        | PrimaryTree-F.Call name all ↦ λ is. rw (fold-roll-PrimaryTree A (A → A) A (A × A) A A A A A A A (primary_level rule) (test_level rule) (and_level rule) (arm_level rule) (comparison_level rule) (not_level rule) (or_level rule) (predicate_level rule) (product_level rule) (sign_level rule) (sum_level rule) x, sym is) (k.call name (map (made_of rule) (map (λ t. t.0) all)) (proved P (λ t. P (made_of rule t)) (made_of rule) (λ t p. p) all))
      ])
      (λ x. elim [
        | Test-F.Plain ↦ λ is. rw (fold-roll-Test A (A → A) A (A × A) A A A A A A A (primary_level rule) (test_level rule) (and_level rule) (arm_level rule) (comparison_level rule) (not_level rule) (or_level rule) (predicate_level rule) (product_level rule) (sign_level rule) (sum_level rule) x, sym is) (λ a p. p)
        | Test-F.Between negated low high ↦ λ is. rw (fold-roll-Test A (A → A) A (A × A) A A A A A A A (primary_level rule) (test_level rule) (and_level rule) (arm_level rule) (comparison_level rule) (not_level rule) (or_level rule) (predicate_level rule) (product_level rule) (sign_level rule) (sum_level rule) x, sym is) (λ a p. negated-keeps negated (rule.between a (of_comparison low.0) (of_comparison high.0)) (k.between a (of_comparison low.0) (of_comparison high.0) p low.1 high.1))
        | Test-F.OneOf negated all ↦ λ is. rw (fold-roll-Test A (A → A) A (A × A) A A A A A A A (primary_level rule) (test_level rule) (and_level rule) (arm_level rule) (comparison_level rule) (not_level rule) (or_level rule) (predicate_level rule) (product_level rule) (sign_level rule) (sum_level rule) x, sym is) (λ a p. negated-keeps negated (rule.in_list a (map (made_of rule) (map (λ t. t.0) all))) (k.in_list a (map (made_of rule) (map (λ t. t.0) all)) p (proved P (λ t. P (made_of rule t)) (made_of rule) (λ t p. p) all)))
        | Test-F.Like negated pattern ↦ λ is. rw (fold-roll-Test A (A → A) A (A × A) A A A A A A A (primary_level rule) (test_level rule) (and_level rule) (arm_level rule) (comparison_level rule) (not_level rule) (or_level rule) (predicate_level rule) (product_level rule) (sign_level rule) (sum_level rule) x, sym is) (λ a p. negated-keeps negated (rule.like a (of_comparison pattern.0)) (k.like a (of_comparison pattern.0) p pattern.1))
        | Test-F.Is negated truth ↦ λ is. rw (fold-roll-Test A (A → A) A (A × A) A A A A A A A (primary_level rule) (test_level rule) (and_level rule) (arm_level rule) (comparison_level rule) (not_level rule) (or_level rule) (predicate_level rule) (product_level rule) (sign_level rule) (sum_level rule) x, sym is) (λ a p. negated-keeps negated (rule.is truth a) (k.is truth a p))
      ])
      (λ x y is. rw (fold-roll-AndTree A (A → A) A (A × A) A A A A A A A (primary_level rule) (test_level rule) (and_level rule) (arm_level rule) (comparison_level rule) (not_level rule) (or_level rule) (predicate_level rule) (product_level rule) (sign_level rule) (sum_level rule) x, sym is) (chain_of_one-keeps rule.both k.both (of_not y.first.0) (map of_not (map (λ e. e.0) y.rest)) y.first.1 (proved P (λ t. P (of_not t)) of_not (λ t p. p) y.rest)))
      (λ x y is. rw (fold-roll-Arm A (A → A) A (A × A) A A A A A A A (primary_level rule) (test_level rule) (and_level rule) (arm_level rule) (comparison_level rule) (not_level rule) (or_level rule) (predicate_level rule) (product_level rule) (sign_level rule) (sum_level rule) x, sym is) ((y.when.1, y.gives.1)))
      (λ x y is. rw (fold-roll-ComparisonTree A (A → A) A (A × A) A A A A A A A (primary_level rule) (test_level rule) (and_level rule) (arm_level rule) (comparison_level rule) (not_level rule) (or_level rule) (predicate_level rule) (product_level rule) (sign_level rule) (sum_level rule) x, sym is) (chain-keeps rule.compare k.compare (of_sum y.first.0) (map (behind of_sum) (map (behind (tree_in (λ t. P (of_sum t)))) y.rest)) y.first.1 (pairs_proved P (λ t. P (of_sum t)) of_sum (λ t p. p) y.rest)))
      (λ x y is. rw (fold-roll-NotTree A (A → A) A (A × A) A A A A A A A (primary_level rule) (test_level rule) (and_level rule) (arm_level rule) (comparison_level rule) (not_level rule) (or_level rule) (predicate_level rule) (product_level rule) (sign_level rule) (sum_level rule) x, sym is) (times-keeps y.count (of_predicate y.operand.0) y.operand.1))
      (λ x y is. rw (fold-roll-OrTree A (A → A) A (A × A) A A A A A A A (primary_level rule) (test_level rule) (and_level rule) (arm_level rule) (comparison_level rule) (not_level rule) (or_level rule) (predicate_level rule) (product_level rule) (sign_level rule) (sum_level rule) x, sym is) (chain_of_one-keeps rule.either k.either (of_and y.first.0) (map of_and (map (λ e. e.0) y.rest)) y.first.1 (proved P (λ t. P (of_and t)) of_and (λ t p. p) y.rest)))
      (λ x y is. rw (fold-roll-PredicateTree A (A → A) A (A × A) A A A A A A A (primary_level rule) (test_level rule) (and_level rule) (arm_level rule) (comparison_level rule) (not_level rule) (or_level rule) (predicate_level rule) (product_level rule) (sign_level rule) (sum_level rule) x, sym is) (y.test.1 (of_comparison y.value.0) y.value.1))
      (λ x y is. rw (fold-roll-ProductTree A (A → A) A (A × A) A A A A A A A (primary_level rule) (test_level rule) (and_level rule) (arm_level rule) (comparison_level rule) (not_level rule) (or_level rule) (predicate_level rule) (product_level rule) (sign_level rule) (sum_level rule) x, sym is) (chain-keeps rule.product k.product (of_sign y.first.0) (map (behind of_sign) (map (behind (tree_in (λ t. P (of_sign t)))) y.rest)) y.first.1 (pairs_proved P (λ t. P (of_sign t)) of_sign (λ t p. p) y.rest)))
      (λ x y is. rw (fold-roll-SignTree A (A → A) A (A × A) A A A A A A A (primary_level rule) (test_level rule) (and_level rule) (arm_level rule) (comparison_level rule) (not_level rule) (or_level rule) (predicate_level rule) (product_level rule) (sign_level rule) (sum_level rule) x, sym is) (signs-keep y.signs (of_primary y.operand.0) y.operand.1))
      (λ x y is. rw (fold-roll-SumTree A (A → A) A (A × A) A A A A A A A (primary_level rule) (test_level rule) (and_level rule) (arm_level rule) (comparison_level rule) (not_level rule) (or_level rule) (predicate_level rule) (product_level rule) (sign_level rule) (sum_level rule) x, sym is) (chain-keeps rule.sum k.sum (of_product y.first.0) (map (behind of_product) (map (behind (tree_in (λ t. P (of_product t)))) y.rest)) y.first.1 (pairs_proved P (λ t. P (of_product t)) of_product (λ t p. p) y.rest)))
