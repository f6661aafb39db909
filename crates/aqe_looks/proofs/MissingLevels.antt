-- What is missing of a tree of each level, from what is missing of its parts.
use Rattle.std.proofs.Common.{◌≡◌, ℕ, zero, suc, Bool, true, false, cond, List, [], ◌∷◌, ◌++◌, map, flat_map, drop, get_or, length, ◌<◌, ◌≤◌, ◌+◌, add-one, drop-cons, Option, Some, None, codes, refl, ap, sym, subst, ◌∙◌}
use Rattle.std.proofs.lemmas.List.{drop_all}
use Rattle.std.specs.Option.{option_or, option_map_or, is_some}
use Rattle.std.specs.Prelude.{option_map}
use Rattle.aqe_values.specs.declared.sql_type.SqlType.{SqlType}
use Rattle.aqe_logical.specs.declared.plan.AggFun.{AggFun}
use Rattle.aqe_trees.specs.declared.expression.OrTree.{OrTree}
use Rattle.aqe_trees.specs.declared.expression.AndTree.{AndTree}
use Rattle.aqe_trees.specs.declared.expression.NotTree.{NotTree}
use Rattle.aqe_trees.specs.declared.expression.PredicateTree.{PredicateTree}
use Rattle.aqe_trees.specs.declared.expression.Test.{Test}
use Rattle.aqe_trees.specs.declared.expression.Test.TheVariants as test
use Rattle.aqe_trees.specs.declared.expression.Truth.{Truth}
use Rattle.aqe_trees.specs.declared.expression.CompareOp.{CompareOp}
use Rattle.aqe_trees.specs.declared.expression.ComparisonTree.{ComparisonTree}
use Rattle.aqe_trees.specs.declared.expression.SumTree.{SumTree}
use Rattle.aqe_trees.specs.declared.expression.Sign.{Sign}
use Rattle.aqe_trees.specs.declared.expression.ProductTree.{ProductTree}
use Rattle.aqe_trees.specs.declared.expression.ProductOp.{ProductOp}
use Rattle.aqe_trees.specs.declared.expression.SignTree.{SignTree}
use Rattle.aqe_trees.specs.declared.expression.PrimaryTree.{PrimaryTree}
use Rattle.aqe_trees.specs.declared.expression.PrimaryTree.TheVariants as primary
use Rattle.aqe_trees.specs.declared.expression.Arm.{Arm}
use Rattle.aqe_trees.specs.Shapes.{or_tree, and_tree, not_tree, predicate_tree, comparison_tree, sum_tree, product_tree, sign_tree, arm}
use Rattle.aqe_rules.specs.declared.names.Named.{Named}
use Rattle.aqe_rules.specs.Looks.{Mention, plain, of_item, aggregate, mentions, mentioned_if_any}
use Rattle.aqe_rules.specs.Plans.{is_shown}
use Rattle.aqe_rules.specs.Readings.{aggregate_named}
use Rattle.aqe_rules.specs.Trees.{times, under_signs, negated_if, chain, chain_of_one, made_of, made_of_and, made_of_not, made_of_predicate, made_of_test, made_of_comparison, made_of_sum, made_of_product, made_of_sign, made_of_primary, made_of_arm}
use Rattle.aqe_rules.proofs.Levels.{of_or, of_and, of_not, of_predicate, of_comparison, of_sum, of_product, of_sign, of_arm, of_number, of_literal, of_boolean, of_null, of_column, of_table_column, of_paren, of_cast, of_count_all, of_call, of_case, of_plain, of_between, of_one_of, of_like, of_is}
use Rattle.aqe_looks.proofs.Tests.{by_form}
use Rattle.aqe_looks.specs.declared.missing.Mention as found
use Rattle.aqe_looks.specs.Missing.{mention_seen, seen, first_missing, missing_in, missing_if_any, missing_of_or, missing_of_and, missing_of_not, missing_of_predicate, missing_of_test, missing_of_comparison, missing_of_sum, missing_of_product, missing_of_sign, missing_of_primary, missing_of_arm}

module _ (columns : List Named) where
  abbrev of : List Mention → Option Mention
  of ms = first_missing columns ms

  -- the first of two parts, one behind the other
  step : (b : Bool) (m : Mention) (o p : Option Mention) → cond b (option_or o p) (Some m) ≡ option_or (cond b o (Some m)) p
  step true m o p = refl
  step false m o p = refl

  pub of_two : (a b : List Mention) → of (a ++ b) ≡ option_or (of a) (of b)
  of_two [] b = refl
  of_two (m ∷ a) b = ap (λ (o : Option Mention). cond (is_shown columns m) o (Some m)) (of_two a b) ∙ step (is_shown columns m) m (of a) (of b)

  or_three : (o p q : Option Mention) → option_or (option_or o p) q ≡ option_or o (option_or p q)
  or_three None p q = refl
  or_three (Some m) p q = refl

  -- of the mentions of several parts
  pub of_parts : {X : Type 0} (f : X → List Mention) (xs : List X) → of (flat_map f xs) ≡ missing_in (λ x. of (f x)) xs
  of_parts f [] = refl
  of_parts f (x ∷ xs) = of_two (f x) (flat_map f xs) ∙ ap (λ (o : Option Mention). option_or (of (f x)) o) (of_parts f xs)

  chain_missing : {X : Type 0} (f : X → List Mention) (a : List Mention) (xs : List X) →
      of (chain_of_one (λ (b c : List Mention). b ++ c) a (map f xs)) ≡ option_or (of a) (missing_in (λ x. of (f x)) xs)
  chain_missing f a [] = right (of a)
    where
      right : (o : Option Mention) → o ≡ option_or o None
      right None = refl
      right (Some m) = refl
  chain_missing f a (x ∷ xs) =
      chain_missing f (a ++ f x) xs ∙ ap (λ (o : Option Mention). option_or o (missing_in (λ x. of (f x)) xs)) (of_two a (f x)) ∙
      or_three (of a) (of (f x)) (missing_in (λ x. of (f x)) xs)

  pairs_missing : {B X : Type 0} (f : X → List Mention) (a : List Mention) (xs : List (B × X)) →
      of (chain (λ (op : B) (b c : List Mention). b ++ c) a (map (λ next. (next.0, f next.1)) xs)) ≡ option_or (of a) (missing_in (λ next. of (f next.1)) xs)
  pairs_missing f a [] = right (of a)
    where
      right : (o : Option Mention) → o ≡ option_or o None
      right None = refl
      right (Some m) = refl
  pairs_missing f a (x ∷ xs) =
      pairs_missing f (a ++ f x.1) xs ∙ ap (λ (o : Option Mention). option_or o (missing_in (λ next. of (f next.1)) xs)) (of_two a (f x.1)) ∙
      or_three (of a) (of (f x.1)) (missing_in (λ next. of (f next.1)) xs)

  pub or_missing : (t : OrTree) (first : AndTree) (rest : List AndTree) → t ≡ or_tree first rest →
      option_or (missing_of_and columns first) (missing_in (missing_of_and columns) rest) ≡ missing_of_or columns t
  unfolding missing_of_or missing_of_and
  or_missing t first rest e = sym (ap (λ (tree : OrTree). of (made_of mentions tree)) e ∙ ap of (of_or mentions first rest) ∙ chain_missing (made_of_and mentions) (made_of_and mentions first) rest)

  pub and_missing : (t : AndTree) (first : NotTree) (rest : List NotTree) → t ≡ and_tree first rest →
      option_or (missing_of_not columns first) (missing_in (missing_of_not columns) rest) ≡ missing_of_and columns t
  unfolding missing_of_and missing_of_not
  and_missing t first rest e = sym (ap (λ (tree : AndTree). of (made_of_and mentions tree)) e ∙ ap of (of_and mentions first rest) ∙ chain_missing (made_of_not mentions) (made_of_not mentions first) rest)

  pub comparison_missing : (t : ComparisonTree) (first : SumTree) (rest : List (CompareOp × SumTree)) → t ≡ comparison_tree first rest →
      option_or (missing_of_sum columns first) (missing_in (λ next. missing_of_sum columns next.1) rest) ≡ missing_of_comparison columns t
  unfolding missing_of_comparison missing_of_sum
  comparison_missing t first rest e = sym (ap (λ (tree : ComparisonTree). of (made_of_comparison mentions tree)) e ∙ ap of (of_comparison mentions first rest) ∙ pairs_missing (made_of_sum mentions) (made_of_sum mentions first) rest)

  pub sum_missing : (t : SumTree) (first : ProductTree) (rest : List (Sign × ProductTree)) → t ≡ sum_tree first rest →
      option_or (missing_of_product columns first) (missing_in (λ next. missing_of_product columns next.1) rest) ≡ missing_of_sum columns t
  unfolding missing_of_sum missing_of_product
  sum_missing t first rest e = sym (ap (λ (tree : SumTree). of (made_of_sum mentions tree)) e ∙ ap of (of_sum mentions first rest) ∙ pairs_missing (made_of_product mentions) (made_of_product mentions first) rest)

  pub product_missing : (t : ProductTree) (first : SignTree) (rest : List (ProductOp × SignTree)) → t ≡ product_tree first rest →
      option_or (missing_of_sign columns first) (missing_in (λ next. missing_of_sign columns next.1) rest) ≡ missing_of_product columns t
  unfolding missing_of_product missing_of_sign
  product_missing t first rest e = sym (ap (λ (tree : ProductTree). of (made_of_product mentions tree)) e ∙ ap of (of_product mentions first rest) ∙ pairs_missing (made_of_sign mentions) (made_of_sign mentions first) rest)

  -- NOT and signs mention nothing
  under_nots : (n : ℕ) (a : List Mention) → times mentions.negation n a ≡ a
  under_nots zero a = refl
  under_nots (suc n) a = under_nots n a

  under_all_signs : (signs : List Sign) (a : List Mention) → under_signs mentions signs a ≡ a
  under_all_signs [] a = refl
  under_all_signs (sign ∷ signs) a = under_all_signs signs a

  either_way : (negated : Bool) (a : List Mention) → negated_if mentions negated a ≡ a
  either_way true a = refl
  either_way false a = refl

  pub not_missing : (t : NotTree) (count : ℕ) (operand : PredicateTree) → t ≡ not_tree count operand → missing_of_predicate columns operand ≡ missing_of_not columns t
  unfolding missing_of_predicate missing_of_not
  not_missing t count operand e = sym (ap (λ (tree : NotTree). of (made_of_not mentions tree)) e ∙ ap of (of_not mentions count operand ∙ under_nots count (made_of_predicate mentions operand)))

  pub sign_missing : (t : SignTree) (signs : List Sign) (operand : PrimaryTree) → t ≡ sign_tree signs operand → missing_of_primary columns operand ≡ missing_of_sign columns t
  unfolding missing_of_primary missing_of_sign
  sign_missing t signs operand e = sym (ap (λ (tree : SignTree). of (made_of_sign mentions tree)) e ∙ ap of (of_sign mentions signs operand ∙ under_all_signs signs (made_of_primary mentions operand)))

  -- tests
  lists : (xs : List OrTree) → of (flat_map (λ b. b) (map (made_of mentions) xs)) ≡ missing_in (missing_of_or columns) xs
  unfolding missing_of_or
  lists [] = refl
  lists (x ∷ xs) = of_two (made_of mentions x) (flat_map (λ b. b) (map (made_of mentions) xs)) ∙ ap (λ (o : Option Mention). option_or (of (made_of mentions x)) o) (lists xs)

  right : (o : Option Mention) → o ≡ option_or o None
  right None = refl
  right (Some m) = refl

  behind : (a : List Mention) (asked : Test) → of (made_of_test mentions asked a) ≡ option_or (of a) (missing_of_test columns asked)
  unfolding missing_of_test
  behind a = by_form (λ t. of (made_of_test mentions t a) ≡ option_or (of a) (of (made_of_test mentions t [])))
      (rw (of_plain mentions a, of_plain mentions []) (right (of a)))
      (λ negated low high.
      rw (of_between mentions negated low high a, of_between mentions negated low high [], either_way negated (a ++ made_of_comparison mentions low ++ made_of_comparison mentions high), either_way negated (made_of_comparison mentions low ++ made_of_comparison mentions high))
      (of_two (a ++ made_of_comparison mentions low) (made_of_comparison mentions high) ∙
      ap (λ (o : Option Mention). option_or o (of (made_of_comparison mentions high))) (of_two a (made_of_comparison mentions low)) ∙
      or_three (of a) (of (made_of_comparison mentions low)) (of (made_of_comparison mentions high)) ∙
      ap (λ (o : Option Mention). option_or (of a) o) (sym (of_two (made_of_comparison mentions low) (made_of_comparison mentions high)))))
      (λ negated list.
      rw (of_one_of mentions negated list a, of_one_of mentions negated list [], either_way negated (a ++ flat_map (λ b. b) (map (made_of mentions) list)), either_way negated (flat_map (λ b. b) (map (made_of mentions) list)))
      (of_two a (flat_map (λ b. b) (map (made_of mentions) list))))
      (λ negated pattern.
      rw (of_like mentions negated pattern a, of_like mentions negated pattern [], either_way negated (a ++ made_of_comparison mentions pattern), either_way negated (made_of_comparison mentions pattern))
      (of_two a (made_of_comparison mentions pattern)))
      (λ negated truth. rw (of_is mentions negated truth a, of_is mentions negated truth [], either_way negated a, either_way negated []) (right (of a)))

  pub predicate_missing : (t : PredicateTree) (value : ComparisonTree) (asked : Test) → t ≡ predicate_tree value asked →
      option_or (missing_of_comparison columns value) (missing_of_test columns asked) ≡ missing_of_predicate columns t
  unfolding missing_of_predicate missing_of_comparison
  predicate_missing t value asked e = sym (ap (λ (tree : PredicateTree). of (made_of_predicate mentions tree)) e ∙ ap of (of_predicate mentions value asked) ∙ behind (made_of_comparison mentions value) asked)

  pub plain_missing : (t : Test) → t ≡ test.Plain → None ≡ missing_of_test columns t
  unfolding missing_of_test
  plain_missing t e = sym (ap (λ (u : Test). of (made_of_test mentions u [])) e ∙ ap of (of_plain mentions []))

  pub between_missing : (t : Test) (negated : Bool) (low high : ComparisonTree) → t ≡ test.Between negated low high →
      option_or (missing_of_comparison columns low) (missing_of_comparison columns high) ≡ missing_of_test columns t
  unfolding missing_of_test missing_of_comparison
  between_missing t negated low high e =
      sym (ap (λ (u : Test). of (made_of_test mentions u [])) e ∙ ap of (of_between mentions negated low high [] ∙ either_way negated (made_of_comparison mentions low ++ made_of_comparison mentions high)) ∙
      of_two (made_of_comparison mentions low) (made_of_comparison mentions high))

  pub one_of_missing : (t : Test) (negated : Bool) (list : List OrTree) → t ≡ test.OneOf negated list → missing_in (missing_of_or columns) list ≡ missing_of_test columns t
  unfolding missing_of_test
  one_of_missing t negated list e =
      sym (ap (λ (u : Test). of (made_of_test mentions u [])) e ∙ ap of (of_one_of mentions negated list [] ∙ either_way negated (flat_map (λ b. b) (map (made_of mentions) list))) ∙ lists list)

  pub like_missing : (t : Test) (negated : Bool) (pattern : ComparisonTree) → t ≡ test.Like negated pattern → missing_of_comparison columns pattern ≡ missing_of_test columns t
  unfolding missing_of_test missing_of_comparison
  like_missing t negated pattern e = sym (ap (λ (u : Test). of (made_of_test mentions u [])) e ∙ ap of (of_like mentions negated pattern [] ∙ either_way negated (made_of_comparison mentions pattern)))

  pub is_missing : (t : Test) (negated : Bool) (truth : Truth) → t ≡ test.Is negated truth → None ≡ missing_of_test columns t
  unfolding missing_of_test
  is_missing t negated truth e = sym (ap (λ (u : Test). of (made_of_test mentions u [])) e ∙ ap of (of_is mentions negated truth [] ∙ either_way negated []))

  -- operands
  module _ (t : PrimaryTree) where
    is : (u : PrimaryTree) {a : List Mention} → t ≡ u → made_of_primary mentions u ≡ a → of a ≡ missing_of_primary columns t
    unfolding missing_of_primary
    is u e h = sym (ap (λ (tree : PrimaryTree). of (made_of_primary mentions tree)) e ∙ ap of h)

    pub column_missing : (name : List ℕ) → t ≡ primary.Column name → of (plain name ∷ []) ≡ missing_of_primary columns t
    column_missing name e = is (primary.Column name) e (of_column mentions name)

    pub table_column_missing : (table name : List ℕ) → t ≡ primary.TableColumn table name → Some (of_item table name) ≡ missing_of_primary columns t
    table_column_missing table name e = is (primary.TableColumn table name) e (of_table_column mentions table name)

    pub paren_missing : (value : OrTree) → t ≡ primary.Paren value → missing_of_or columns value ≡ missing_of_primary columns t
    unfolding missing_of_or
    paren_missing value e = is (primary.Paren value) e (of_paren mentions value)

    pub number_missing : (negative : Bool) (n : ℕ) (long : Bool) → t ≡ primary.Number negative n long → None ≡ missing_of_primary columns t
    number_missing negative n long e = is (primary.Number negative n long) e (of_number mentions negative n long)

    pub literal_missing : (content : List ℕ) → t ≡ primary.Literal content → None ≡ missing_of_primary columns t
    literal_missing content e = is (primary.Literal content) e (of_literal mentions content)

    pub boolean_missing : (b : Bool) → t ≡ primary.Boolean b → None ≡ missing_of_primary columns t
    boolean_missing b e = is (primary.Boolean b) e (of_boolean mentions b)

    pub null_missing : t ≡ primary.Null → None ≡ missing_of_primary columns t
    null_missing e = is primary.Null e (of_null mentions)

    pub cast_missing : (value : OrTree) (kind : SqlType) → t ≡ primary.Cast value kind → missing_of_or columns value ≡ missing_of_primary columns t
    unfolding missing_of_or
    cast_missing value kind e = is (primary.Cast value kind) e (of_cast mentions value kind)

    maybe : (a : Option OrTree) → of (mentioned_if_any (option_map (made_of mentions) a)) ≡ missing_if_any columns a
    unfolding missing_of_or
    maybe None = refl
    maybe (Some a) = refl

    arms_are : (arms : List Arm) → of (flat_map (λ arm. arm.0 ++ arm.1) (map (made_of_arm mentions) arms)) ≡ missing_in (missing_of_arm columns) arms
    unfolding missing_of_arm
    arms_are [] = refl
    arms_are (a ∷ arms) =
        of_two ((made_of_arm mentions a).0 ++ (made_of_arm mentions a).1) (flat_map (λ arm. arm.0 ++ arm.1) (map (made_of_arm mentions) arms)) ∙
        ap (λ (o : Option Mention). option_or o (of (flat_map (λ arm. arm.0 ++ arm.1) (map (made_of_arm mentions) arms)))) (of_two (made_of_arm mentions a).0 (made_of_arm mentions a).1) ∙
        ap (λ (o : Option Mention). option_or (option_or (of (made_of_arm mentions a).0) (of (made_of_arm mentions a).1)) o) (arms_are arms)

    pub case_missing : (operand : Option OrTree) (arms : List Arm) (otherwise : Option OrTree) → t ≡ primary.Case operand arms otherwise →
        option_or (missing_if_any columns operand) (option_or (missing_in (missing_of_arm columns) arms) (missing_if_any columns otherwise)) ≡ missing_of_primary columns t
    case_missing operand arms otherwise e =
        let a : List Mention = mentioned_if_any (option_map (made_of mentions) operand) in
        let b : List Mention = flat_map (λ arm. arm.0 ++ arm.1) (map (made_of_arm mentions) arms) in
        let c : List Mention = mentioned_if_any (option_map (made_of mentions) otherwise) in
        let parts : of (a ++ b ++ c) ≡ option_or (missing_if_any columns operand) (option_or (missing_in (missing_of_arm columns) arms) (missing_if_any columns otherwise)) =
        of_two (a ++ b) c ∙ ap (λ (o : Option Mention). option_or o (of c)) (of_two a b) ∙ or_three (of a) (of b) (of c) ∙
        ap (λ (o : Option Mention). option_or o (option_or (of b) (of c))) (maybe operand) ∙
        ap (λ (o : Option Mention). option_or (missing_if_any columns operand) (option_or o (of c))) (arms_are arms) ∙
        ap (λ (o : Option Mention). option_or (missing_if_any columns operand) (option_or (missing_in (missing_of_arm columns) arms) o)) (maybe otherwise) in
        sym parts ∙ is (primary.Case operand arms otherwise) e (of_case mentions operand arms otherwise)

    pub count_all_missing : t ≡ primary.CountAll → Some (aggregate (codes "count")) ≡ missing_of_primary columns t
    count_all_missing e = is primary.CountAll e (of_count_all mentions)

    named : (name : List ℕ) (fun : Option AggFun) (ms : List Mention) → is_some fun ≡ true → of (option_map_or (λ f. aggregate name ∷ ms) fun ms) ≡ Some (aggregate name)
    named name (Some f) ms h = refl
    named name None ms h = absurd (cc h)

    not_named : (name : List ℕ) (fun : Option AggFun) (ms : List Mention) → is_some fun ≡ false → option_map_or (λ f. aggregate name ∷ ms) fun ms ≡ ms
    not_named name (Some f) ms h = absurd (cc h)
    not_named name None ms h = refl

    pub aggregate_missing : (name : List ℕ) (arguments : List OrTree) → t ≡ primary.Call name arguments → is_some (aggregate_named name) ≡ true → Some (aggregate name) ≡ missing_of_primary columns t
    aggregate_missing name arguments e h =
        sym (named name (aggregate_named name) (flat_map (λ a. a) (map (made_of mentions) arguments)) h) ∙ is (primary.Call name arguments) e (of_call mentions name arguments)

    pub function_missing : (name : List ℕ) (arguments : List OrTree) → t ≡ primary.Call name arguments → is_some (aggregate_named name) ≡ false → missing_in (missing_of_or columns) arguments ≡ missing_of_primary columns t
    function_missing name arguments e h =
        sym (lists arguments) ∙ is (primary.Call name arguments) e (of_call mentions name arguments ∙ not_named name (aggregate_named name) (flat_map (λ a. a) (map (made_of mentions) arguments)) h)

  pub arm_missing : (a : Arm) (when gives : OrTree) → a ≡ arm when gives → option_or (missing_of_or columns when) (missing_of_or columns gives) ≡ missing_of_arm columns a
  unfolding missing_of_arm missing_of_or
  arm_missing a when gives e = sym (ap (λ (b : Arm). option_or (of (made_of_arm mentions b).0) (of (made_of_arm mentions b).1)) e ∙ ap (λ (b : List Mention × List Mention). option_or (of b.0) (of b.1)) (of_arm mentions when gives))

  -- the tree as a whole
  pub missing_of_all : (tree : OrTree) → missing_of_or columns tree ≡ first_missing columns (made_of mentions tree)
  unfolding missing_of_or
  missing_of_all tree = refl

-- the first part, where it is there and where it is not
pub first_found : (p : Option Mention) {o r whole : Option Mention} {m : Mention} → option_or o p ≡ whole → r ≡ o → r ≡ Some m → Some m ≡ whole
first_found p h e f = ap (λ (x : Option Mention). option_or x p) (sym f ∙ e) ∙ h

pub first_none : (p : Option Mention) {o r whole : Option Mention} → option_or o p ≡ whole → r ≡ o → r ≡ None → p ≡ whole
first_none p h e f = ap (λ (x : Option Mention). option_or x p) (sym f ∙ e) ∙ h

-- what the code found of the first part, and of those behind it
module _ (columns : List Named) where
  pub or_found : (t : OrTree) (first : AndTree) (rest : List AndTree) (r : Option found.Mention) (m : found.Mention) → t ≡ or_tree first rest → seen r ≡ missing_of_and columns first → r ≡ Some m → Some (mention_seen m) ≡ missing_of_or columns t
  or_found t first rest r m e h k = first_found (missing_in (missing_of_and columns) rest) (or_missing columns t first rest e) h (ap seen k)

  pub or_left : (t : OrTree) (first : AndTree) (rest : List AndTree) (r : Option found.Mention) → t ≡ or_tree first rest → seen r ≡ missing_of_and columns first → r ≡ None → missing_in (missing_of_and columns) rest ≡ missing_of_or columns t
  or_left t first rest r e h k = first_none (missing_in (missing_of_and columns) rest) (or_missing columns t first rest e) h (ap seen k)

  pub and_found : (t : AndTree) (first : NotTree) (rest : List NotTree) (r : Option found.Mention) (m : found.Mention) → t ≡ and_tree first rest → seen r ≡ missing_of_not columns first → r ≡ Some m → Some (mention_seen m) ≡ missing_of_and columns t
  and_found t first rest r m e h k = first_found (missing_in (missing_of_not columns) rest) (and_missing columns t first rest e) h (ap seen k)

  pub and_left : (t : AndTree) (first : NotTree) (rest : List NotTree) (r : Option found.Mention) → t ≡ and_tree first rest → seen r ≡ missing_of_not columns first → r ≡ None → missing_in (missing_of_not columns) rest ≡ missing_of_and columns t
  and_left t first rest r e h k = first_none (missing_in (missing_of_not columns) rest) (and_missing columns t first rest e) h (ap seen k)

  pub comparison_found : (t : ComparisonTree) (first : SumTree) (rest : List (CompareOp × SumTree)) (r : Option found.Mention) (m : found.Mention) → t ≡ comparison_tree first rest → seen r ≡ missing_of_sum columns first → r ≡ Some m → Some (mention_seen m) ≡ missing_of_comparison columns t
  comparison_found t first rest r m e h k = first_found (missing_in (λ next. missing_of_sum columns next.1) rest) (comparison_missing columns t first rest e) h (ap seen k)

  pub comparison_left : (t : ComparisonTree) (first : SumTree) (rest : List (CompareOp × SumTree)) (r : Option found.Mention) → t ≡ comparison_tree first rest → seen r ≡ missing_of_sum columns first → r ≡ None → missing_in (λ next. missing_of_sum columns next.1) rest ≡ missing_of_comparison columns t
  comparison_left t first rest r e h k = first_none (missing_in (λ next. missing_of_sum columns next.1) rest) (comparison_missing columns t first rest e) h (ap seen k)

  pub sum_found : (t : SumTree) (first : ProductTree) (rest : List (Sign × ProductTree)) (r : Option found.Mention) (m : found.Mention) → t ≡ sum_tree first rest → seen r ≡ missing_of_product columns first → r ≡ Some m → Some (mention_seen m) ≡ missing_of_sum columns t
  sum_found t first rest r m e h k = first_found (missing_in (λ next. missing_of_product columns next.1) rest) (sum_missing columns t first rest e) h (ap seen k)

  pub sum_left : (t : SumTree) (first : ProductTree) (rest : List (Sign × ProductTree)) (r : Option found.Mention) → t ≡ sum_tree first rest → seen r ≡ missing_of_product columns first → r ≡ None → missing_in (λ next. missing_of_product columns next.1) rest ≡ missing_of_sum columns t
  sum_left t first rest r e h k = first_none (missing_in (λ next. missing_of_product columns next.1) rest) (sum_missing columns t first rest e) h (ap seen k)

  pub product_found : (t : ProductTree) (first : SignTree) (rest : List (ProductOp × SignTree)) (r : Option found.Mention) (m : found.Mention) → t ≡ product_tree first rest → seen r ≡ missing_of_sign columns first → r ≡ Some m → Some (mention_seen m) ≡ missing_of_product columns t
  product_found t first rest r m e h k = first_found (missing_in (λ next. missing_of_sign columns next.1) rest) (product_missing columns t first rest e) h (ap seen k)

  pub product_left : (t : ProductTree) (first : SignTree) (rest : List (ProductOp × SignTree)) (r : Option found.Mention) → t ≡ product_tree first rest → seen r ≡ missing_of_sign columns first → r ≡ None → missing_in (λ next. missing_of_sign columns next.1) rest ≡ missing_of_product columns t
  product_left t first rest r e h k = first_none (missing_in (λ next. missing_of_sign columns next.1) rest) (product_missing columns t first rest e) h (ap seen k)

  pub predicate_found : (t : PredicateTree) (value : ComparisonTree) (asked : Test) (r : Option found.Mention) (m : found.Mention) → t ≡ predicate_tree value asked → seen r ≡ missing_of_comparison columns value → r ≡ Some m → Some (mention_seen m) ≡ missing_of_predicate columns t
  predicate_found t value asked r m e h k = first_found (missing_of_test columns asked) (predicate_missing columns t value asked e) h (ap seen k)

  pub predicate_left : (t : PredicateTree) (value : ComparisonTree) (asked : Test) (r : Option found.Mention) → t ≡ predicate_tree value asked → seen r ≡ missing_of_comparison columns value → r ≡ None → missing_of_test columns asked ≡ missing_of_predicate columns t
  predicate_left t value asked r e h k = first_none (missing_of_test columns asked) (predicate_missing columns t value asked e) h (ap seen k)

  pub predicate_second : (t : PredicateTree) (value : ComparisonTree) (asked : Test) (r q : Option found.Mention) → t ≡ predicate_tree value asked → seen r ≡ missing_of_comparison columns value → r ≡ None → seen q ≡ missing_of_test columns asked → seen q ≡ missing_of_predicate columns t
  predicate_second t value asked r q e h k d = d ∙ predicate_left t value asked r e h k

  pub between_found : (t : Test) (negated : Bool) (low high : ComparisonTree) (r : Option found.Mention) (m : found.Mention) → t ≡ test.Between negated low high → seen r ≡ missing_of_comparison columns low → r ≡ Some m → Some (mention_seen m) ≡ missing_of_test columns t
  between_found t negated low high r m e h k = first_found (missing_of_comparison columns high) (between_missing columns t negated low high e) h (ap seen k)

  pub between_left : (t : Test) (negated : Bool) (low high : ComparisonTree) (r : Option found.Mention) → t ≡ test.Between negated low high → seen r ≡ missing_of_comparison columns low → r ≡ None → missing_of_comparison columns high ≡ missing_of_test columns t
  between_left t negated low high r e h k = first_none (missing_of_comparison columns high) (between_missing columns t negated low high e) h (ap seen k)

  pub between_second : (t : Test) (negated : Bool) (low high : ComparisonTree) (r q : Option found.Mention) → t ≡ test.Between negated low high → seen r ≡ missing_of_comparison columns low → r ≡ None → seen q ≡ missing_of_comparison columns high → seen q ≡ missing_of_test columns t
  between_second t negated low high r q e h k d = d ∙ between_left t negated low high r e h k

  pub arm_found : (t : Arm) (when gives : OrTree) (r : Option found.Mention) (m : found.Mention) → t ≡ arm when gives → seen r ≡ missing_of_or columns when → r ≡ Some m → Some (mention_seen m) ≡ missing_of_arm columns t
  arm_found t when gives r m e h k = first_found (missing_of_or columns gives) (arm_missing columns t when gives e) h (ap seen k)

  pub arm_left : (t : Arm) (when gives : OrTree) (r : Option found.Mention) → t ≡ arm when gives → seen r ≡ missing_of_or columns when → r ≡ None → missing_of_or columns gives ≡ missing_of_arm columns t
  arm_left t when gives r e h k = first_none (missing_of_or columns gives) (arm_missing columns t when gives e) h (ap seen k)

  pub arm_second : (t : Arm) (when gives : OrTree) (r q : Option found.Mention) → t ≡ arm when gives → seen r ≡ missing_of_or columns when → r ≡ None → seen q ≡ missing_of_or columns gives → seen q ≡ missing_of_arm columns t
  arm_second t when gives r q e h k d = d ∙ arm_left t when gives r e h k

  pub case_found : (t : PrimaryTree) (operand : Option OrTree) (arms : List Arm) (otherwise : Option OrTree) (r : Option found.Mention) (m : found.Mention) → t ≡ primary.Case operand arms otherwise → seen r ≡ missing_if_any columns operand → r ≡ Some m → Some (mention_seen m) ≡ missing_of_primary columns t
  case_found t operand arms otherwise r m e h k = first_found (option_or (missing_in (missing_of_arm columns) arms) (missing_if_any columns otherwise)) (case_missing columns t operand arms otherwise e) h (ap seen k)

  pub case_left : (t : PrimaryTree) (operand : Option OrTree) (arms : List Arm) (otherwise : Option OrTree) (r : Option found.Mention) → t ≡ primary.Case operand arms otherwise → seen r ≡ missing_if_any columns operand → r ≡ None → option_or (missing_in (missing_of_arm columns) arms) (missing_if_any columns otherwise) ≡ missing_of_primary columns t
  case_left t operand arms otherwise r e h k = first_none (option_or (missing_in (missing_of_arm columns) arms) (missing_if_any columns otherwise)) (case_missing columns t operand arms otherwise e) h (ap seen k)

  pub arms_found : (t : PrimaryTree) (operand : Option OrTree) (arms : List Arm) (otherwise : Option OrTree) (r q : Option found.Mention) (m : found.Mention) → t ≡ primary.Case operand arms otherwise →
      seen r ≡ missing_if_any columns operand → r ≡ None → seen q ≡ missing_in (missing_of_arm columns) arms → q ≡ Some m → Some (mention_seen m) ≡ missing_of_primary columns t
  arms_found t operand arms otherwise r q m e h k d g = first_found (missing_if_any columns otherwise) (case_left t operand arms otherwise r e h k) d (ap seen g)

  pub otherwise_left : (t : PrimaryTree) (operand : Option OrTree) (arms : List Arm) (otherwise : Option OrTree) (r q w : Option found.Mention) → t ≡ primary.Case operand arms otherwise →
      seen r ≡ missing_if_any columns operand → r ≡ None → seen q ≡ missing_in (missing_of_arm columns) arms → q ≡ None → seen w ≡ missing_if_any columns otherwise → seen w ≡ missing_of_primary columns t
  otherwise_left t operand arms otherwise r q w e h k d g l = l ∙ first_none (missing_if_any columns otherwise) (case_left t operand arms otherwise r e h k) d (ap seen g)

  pub not_same : (t : NotTree) (count : ℕ) (operand : PredicateTree) (r : Option found.Mention) → t ≡ not_tree count operand → seen r ≡ missing_of_predicate columns operand → seen r ≡ missing_of_not columns t
  not_same t count operand r e h = h ∙ not_missing columns t count operand e

  pub sign_same : (t : SignTree) (signs : List Sign) (operand : PrimaryTree) (r : Option found.Mention) → t ≡ sign_tree signs operand → seen r ≡ missing_of_primary columns operand → seen r ≡ missing_of_sign columns t
  sign_same t signs operand r e h = h ∙ sign_missing columns t signs operand e

  pub one_of_same : (t : Test) (negated : Bool) (list : List OrTree) (r : Option found.Mention) → t ≡ test.OneOf negated list → seen r ≡ missing_in (missing_of_or columns) list → seen r ≡ missing_of_test columns t
  one_of_same t negated list r e h = h ∙ one_of_missing columns t negated list e

  pub like_same : (t : Test) (negated : Bool) (pattern : ComparisonTree) (r : Option found.Mention) → t ≡ test.Like negated pattern → seen r ≡ missing_of_comparison columns pattern → seen r ≡ missing_of_test columns t
  like_same t negated pattern r e h = h ∙ like_missing columns t negated pattern e

  pub column_same : (t : PrimaryTree) (name : List ℕ) (r : Option found.Mention) → t ≡ primary.Column name → seen r ≡ first_missing columns (plain name ∷ []) → seen r ≡ missing_of_primary columns t
  column_same t name r e h = h ∙ column_missing columns t name e

  pub paren_same : (t : PrimaryTree) (value : OrTree) (r : Option found.Mention) → t ≡ primary.Paren value → seen r ≡ missing_of_or columns value → seen r ≡ missing_of_primary columns t
  paren_same t value r e h = h ∙ paren_missing columns t value e

  pub cast_same : (t : PrimaryTree) (value : OrTree) (kind : SqlType) (r : Option found.Mention) → t ≡ primary.Cast value kind → seen r ≡ missing_of_or columns value → seen r ≡ missing_of_primary columns t
  cast_same t value kind r e h = h ∙ cast_missing columns t value kind e

  pub function_same : (t : PrimaryTree) (name : List ℕ) (arguments : List OrTree) (r : Option found.Mention) → t ≡ primary.Call name arguments → is_some (aggregate_named name) ≡ false → seen r ≡ missing_in (missing_of_or columns) arguments → seen r ≡ missing_of_primary columns t
  function_same t name arguments r e k h = h ∙ function_missing columns t name arguments e k

-- loops: the part at a place, and those behind it
module _ {X : Type 0} (f : X → Option Mention) where
  from_next : (xs : List X) (i : ℕ) (x : X) → i < length xs → x ≡ get_or xs i x → drop i xs ≡ x ∷ drop (i + 1) xs
  from_next xs i x below e = rw (add-one, drop-cons xs i x) (ap (λ (y : _). y ∷ drop (suc i) xs) (sym e))

  pub turn_found : (xs : List X) (i : ℕ) (x : X) (r : Option found.Mention) (m : found.Mention) {whole : Option Mention} → i < length xs → x ≡ get_or xs i x → missing_in f (drop i xs) ≡ whole → seen r ≡ f x → r ≡ Some m →
      Some (mention_seen m) ≡ whole
  turn_found xs i x r m {whole = whole} below e left h k = first_found (missing_in f (drop (i + 1) xs)) (subst (λ (ys : List X). missing_in f ys ≡ whole) (from_next xs i x below e) left) h (ap seen k)

  pub turn_left : (xs : List X) (i : ℕ) (x : X) (r : Option found.Mention) {whole : Option Mention} → i < length xs → x ≡ get_or xs i x → missing_in f (drop i xs) ≡ whole → seen r ≡ f x → r ≡ None →
      missing_in f (drop (i + 1) xs) ≡ whole
  turn_left xs i x r {whole = whole} below e left h k = first_none (missing_in f (drop (i + 1) xs)) (subst (λ (ys : List X). missing_in f ys ≡ whole) (from_next xs i x below e) left) h (ap seen k)

  pub none_left : (xs : List X) (i : ℕ) {whole : Option Mention} → length xs ≤ i → missing_in f (drop i xs) ≡ whole → None ≡ whole
  none_left xs i {whole = whole} h left = subst (λ (ys : List X). missing_in f ys ≡ whole) (drop_all i xs h) left

pub ruleset loops = (turn_found, turn_left, none_left, or_found, or_left, and_found, and_left, comparison_found, comparison_left, sum_found, sum_left, product_found, product_left)

pub ruleset tests = (not_same, sign_same, predicate_found, predicate_second, between_found, between_second, plain_missing, one_of_same, like_same, is_missing, arm_found, arm_second)

pub ruleset operands = (column_same, table_column_missing, paren_same, number_missing, literal_missing, boolean_missing, null_missing, cast_same, case_found, arms_found, otherwise_left, count_all_missing, aggregate_missing, function_same)
