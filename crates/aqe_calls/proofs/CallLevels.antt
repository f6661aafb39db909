-- The calls in a tree of each level, from those in its parts.
use Rattle.std.proofs.Common.{◌≡◌, ℕ, zero, suc, Bool, true, false, List, [], ◌∷◌, ◌++◌, map, Option, Some, None, Ok, Err, refl, ap, sym, ◌∙◌, codes}
use Rattle.std.specs.Prelude.{flat_map, option_map}
use Rattle.std.proofs.lemmas.List.{append-nil, append_assoc}
use Rattle.aqe_values.specs.declared.sql_type.SqlType.{SqlType}
use Rattle.aqe_expr.specs.declared.expr.BinaryOp.TheVariants as binary
use Rattle.aqe_logical.specs.declared.plan.AggFun.{AggFun}
use Rattle.aqe_logical.specs.declared.plan.AggFun.TheVariants.{Count}
use Rattle.aqe_trees.specs.declared.expression.OrTree.{OrTree}
use Rattle.aqe_trees.specs.declared.expression.AndTree.{AndTree}
use Rattle.aqe_trees.specs.declared.expression.NotTree.{NotTree}
use Rattle.aqe_trees.specs.declared.expression.PredicateTree.{PredicateTree}
use Rattle.aqe_trees.specs.declared.expression.Test.{Test}
use Rattle.aqe_trees.specs.declared.expression.Test.TheVariants as test
use Rattle.aqe_trees.specs.declared.expression.Truth.{Truth}
use Rattle.aqe_trees.specs.declared.expression.CompareOp.{CompareOp}
use Rattle.aqe_trees.specs.declared.expression.ComparisonTree.{ComparisonTree}
use Rattle.aqe_trees.specs.declared.expression.SumTree.{SumTree}
use Rattle.aqe_trees.specs.declared.expression.Sign.{Sign}
use Rattle.aqe_trees.specs.declared.expression.ProductTree.{ProductTree}
use Rattle.aqe_trees.specs.declared.expression.ProductOp.{ProductOp}
use Rattle.aqe_trees.specs.declared.expression.SignTree.{SignTree}
use Rattle.aqe_trees.specs.declared.expression.PrimaryTree.{PrimaryTree}
use Rattle.aqe_trees.specs.declared.expression.PrimaryTree.TheVariants as primary
use Rattle.aqe_trees.specs.declared.expression.Arm.{Arm}
use Rattle.aqe_trees.specs.Shapes.{or_tree, and_tree, not_tree, predicate_tree, comparison_tree, sum_tree, product_tree, sign_tree, arm}
use Rattle.aqe_rules.specs.declared.typed.Typed.{Typed}
use Rattle.aqe_rules.specs.Outcomes.{Outcome, upon}
use Rattle.aqe_rules.specs.Operations as operation
use Rattle.aqe_rules.specs.Readings as reading
use Rattle.aqe_rules.specs.Readings.{Place, Reading, Call, readings, within_call, aggregate_named, call_of, call_made}
use Rattle.aqe_rules.specs.Trees.{times, under_signs, negated_if, chain, chain_of_one, made_of, made_of_and, made_of_not, made_of_predicate, made_of_test, made_of_comparison, made_of_sum, made_of_product, made_of_sign, made_of_primary, made_of_arm}
use Rattle.aqe_rules.proofs.Levels.{of_or, of_and, of_not, of_predicate, of_comparison, of_sum, of_product, of_sign, of_arm, of_number, of_literal, of_boolean, of_null, of_column, of_table_column, of_paren, of_cast, of_count_all, of_call, of_case, of_plain, of_between, of_one_of, of_like, of_is}
use Rattle.aqe_looks.proofs.Tests.{by_form}
use Rattle.aqe_typing.specs.declared.calls.Call as typing
use Rattle.aqe_calls.specs.Added.{Added}
use Rattle.aqe_calls.proofs.AddedSteps.{same_calls}
use Rattle.aqe_calls.specs.Calls.{calls_of_or, calls_of_and, calls_of_not, calls_of_predicate, calls_of_test, calls_of_comparison, calls_of_sum, calls_of_product, calls_of_sign, calls_of_primary, calls_of_arm, calls_of_list, calls_of_arms, calls_if_any, call_of_arguments, silent}

-- at a place
at : {p : Place} {a b : Place → Reading} → a ≡ b → (a p).calls ≡ (b p).calls
at {p = p} e = ap (λ (r : Place → Reading). (r p).calls) e

-- chains, from left to right
chain_calls : {T : Type 0} (rule : Typed → Typed → Outcome Typed) (made : T → Place → Reading) (a : Place → Reading) (ts : List T) (p : Place) →
    (chain_of_one (λ (x y : Place → Reading) (q : Place). reading.on_two (x q) (y q) rule) a (map made ts) p).calls ≡ (a p).calls ++ flat_map (λ (t : T). (made t p).calls) ts
chain_calls rule made a [] p = sym (append-nil (a p).calls)
chain_calls rule made a (t ∷ ts) p =
    chain_calls rule made (λ (q : Place). reading.on_two (a q) (made t q) rule) ts p ∙ append_assoc (a p).calls (made t p).calls (flat_map (λ t. (made t p).calls) ts)

chain_of_pairs : {B T : Type 0} (rule : B → Typed → Typed → Outcome Typed) (made : T → Place → Reading) (a : Place → Reading) (ts : List (B × T)) (p : Place) →
    (chain (λ (op : B) (x y : Place → Reading) (q : Place). reading.on_two (x q) (y q) (rule op)) a (map (λ next. (next.0, made next.1)) ts) p).calls ≡
    (a p).calls ++ flat_map (λ (next : B × T). (made next.1 p).calls) ts
chain_of_pairs rule made a [] p = sym (append-nil (a p).calls)
chain_of_pairs rule made a (t ∷ ts) p =
    chain_of_pairs rule made (λ (q : Place). reading.on_two (a q) (made t.1 q) (rule t.0)) ts p ∙ append_assoc (a p).calls (made t.1 p).calls (flat_map (λ next. (made next.1 p).calls) ts)

module _ (p : Place) where
  pub or_calls : (t : OrTree) (first : AndTree) (rest : List AndTree) → t ≡ or_tree first rest → calls_of_or t p ≡ calls_of_and first p ++ flat_map (λ t. calls_of_and t p) rest
  unfolding calls_of_or calls_of_and
  or_calls t first rest e = ap (λ (tree : OrTree). (made_of readings tree p).calls) e ∙ at (of_or readings first rest) ∙ chain_calls (operation.logical binary.Or) (made_of_and readings) (made_of_and readings first) rest p

  pub and_calls : (t : AndTree) (first : NotTree) (rest : List NotTree) → t ≡ and_tree first rest → calls_of_and t p ≡ calls_of_not first p ++ flat_map (λ t. calls_of_not t p) rest
  unfolding calls_of_and calls_of_not
  and_calls t first rest e = ap (λ (tree : AndTree). (made_of_and readings tree p).calls) e ∙ at (of_and readings first rest) ∙ chain_calls (operation.logical binary.And) (made_of_not readings) (made_of_not readings first) rest p

  pub comparison_calls : (t : ComparisonTree) (first : SumTree) (rest : List (CompareOp × SumTree)) → t ≡ comparison_tree first rest →
      calls_of_comparison t p ≡ calls_of_sum first p ++ flat_map (λ (next : CompareOp × SumTree). calls_of_sum next.1 p) rest
  unfolding calls_of_comparison calls_of_sum
  comparison_calls t first rest e =
      ap (λ (tree : ComparisonTree). (made_of_comparison readings tree p).calls) e ∙ at (of_comparison readings first rest) ∙ chain_of_pairs operation.comparison (made_of_sum readings) (made_of_sum readings first) rest p

  pub sum_calls : (t : SumTree) (first : ProductTree) (rest : List (Sign × ProductTree)) → t ≡ sum_tree first rest →
      calls_of_sum t p ≡ calls_of_product first p ++ flat_map (λ (next : Sign × ProductTree). calls_of_product next.1 p) rest
  unfolding calls_of_sum calls_of_product
  sum_calls t first rest e =
      ap (λ (tree : SumTree). (made_of_sum readings tree p).calls) e ∙ at (of_sum readings first rest) ∙ chain_of_pairs operation.sum_operation (made_of_product readings) (made_of_product readings first) rest p

  pub product_calls : (t : ProductTree) (first : SignTree) (rest : List (ProductOp × SignTree)) → t ≡ product_tree first rest →
      calls_of_product t p ≡ calls_of_sign first p ++ flat_map (λ (next : ProductOp × SignTree). calls_of_sign next.1 p) rest
  unfolding calls_of_product calls_of_sign
  product_calls t first rest e =
      ap (λ (tree : ProductTree). (made_of_product readings tree p).calls) e ∙ at (of_product readings first rest) ∙ chain_of_pairs operation.product_operation (made_of_sign readings) (made_of_sign readings first) rest p

  -- NOT and signs call nothing
  times_calls : (n : ℕ) (a : Place → Reading) → (times readings.negation n a p).calls ≡ (a p).calls
  times_calls zero a = refl
  times_calls (suc n) a = times_calls n a

  pub not_calls : (t : NotTree) (count : ℕ) (operand : PredicateTree) → t ≡ not_tree count operand → calls_of_not t p ≡ calls_of_predicate operand p
  unfolding calls_of_not calls_of_predicate
  not_calls t count operand e = ap (λ (tree : NotTree). (made_of_not readings tree p).calls) e ∙ at (of_not readings count operand) ∙ times_calls count (made_of_predicate readings operand)

  signs_calls : (signs : List Sign) (a : Place → Reading) → (under_signs readings signs a p).calls ≡ (a p).calls
  signs_calls [] a = refl
  signs_calls (sign ∷ signs) a = signs_calls signs a

  pub sign_calls : (t : SignTree) (signs : List Sign) (operand : PrimaryTree) → t ≡ sign_tree signs operand → calls_of_sign t p ≡ calls_of_primary operand p
  unfolding calls_of_sign calls_of_primary
  sign_calls t signs operand e = ap (λ (tree : SignTree). (made_of_sign readings tree p).calls) e ∙ at (of_sign readings signs operand) ∙ signs_calls signs (made_of_primary readings operand)

  negated_calls : (negated : Bool) (a : Place → Reading) → (negated_if readings negated a p).calls ≡ (a p).calls
  negated_calls true a = refl
  negated_calls false a = refl

  at_list : (trees : List OrTree) → reading.calls_in (map (λ (a : Place → Reading). a p) (map (made_of readings) trees)) ≡ calls_of_list trees p
  unfolding calls_of_or
  at_list [] = refl
  at_list (t ∷ ts) = ap (λ (calls : List Call). (made_of readings t p).calls ++ calls) (at_list ts)

  -- tests
  pub plain_calls : (t : Test) → t ≡ test.Plain → calls_of_test t p ≡ []
  unfolding calls_of_test
  plain_calls t e = ap (λ (asked : Test). (made_of_test readings asked silent p).calls) e ∙ at (of_plain readings silent)

  pub between_calls : (t : Test) (negated : Bool) (low high : ComparisonTree) → t ≡ test.Between negated low high → calls_of_test t p ≡ calls_of_comparison low p ++ calls_of_comparison high p
  unfolding calls_of_test calls_of_comparison
  between_calls t negated low high e =
      ap (λ (asked : Test). (made_of_test readings asked silent p).calls) e ∙ at (of_between readings negated low high silent) ∙
      negated_calls negated (readings.between silent (made_of_comparison readings low) (made_of_comparison readings high))

  pub one_of_calls : (t : Test) (negated : Bool) (list : List OrTree) → t ≡ test.OneOf negated list → calls_of_test t p ≡ calls_of_list list p
  unfolding calls_of_test
  one_of_calls t negated list e =
      ap (λ (asked : Test). (made_of_test readings asked silent p).calls) e ∙ at (of_one_of readings negated list silent) ∙
      negated_calls negated (readings.in_list silent (map (made_of readings) list)) ∙ at_list list

  pub like_calls : (t : Test) (negated : Bool) (pattern : ComparisonTree) → t ≡ test.Like negated pattern → calls_of_test t p ≡ calls_of_comparison pattern p
  unfolding calls_of_test calls_of_comparison
  like_calls t negated pattern e =
      ap (λ (asked : Test). (made_of_test readings asked silent p).calls) e ∙ at (of_like readings negated pattern silent) ∙ negated_calls negated (readings.like silent (made_of_comparison readings pattern))

  pub is_calls : (t : Test) (negated : Bool) (truth : Truth) → t ≡ test.Is negated truth → calls_of_test t p ≡ []
  unfolding calls_of_test
  is_calls t negated truth e =
      ap (λ (asked : Test). (made_of_test readings asked silent p).calls) e ∙ at (of_is readings negated truth silent) ∙ negated_calls negated (readings.is truth silent)

  -- the calls of a value stand before those of the test of it
  test_calls : (a : Place → Reading) (t : Test) → (made_of_test readings t a p).calls ≡ (a p).calls ++ calls_of_test t p
  unfolding calls_of_test
  test_calls a = by_form (λ t. (made_of_test readings t a p).calls ≡ (a p).calls ++ (made_of_test readings t silent p).calls)
      (at (of_plain readings a) ∙ sym (ap (λ (calls : List Call). (a p).calls ++ calls) (at (of_plain readings silent)) ∙ append-nil (a p).calls))
      (λ negated low high. at (of_between readings negated low high a) ∙ negated_calls negated (readings.between a (made_of_comparison readings low) (made_of_comparison readings high)) ∙
      append_assoc (a p).calls (made_of_comparison readings low p).calls (made_of_comparison readings high p).calls ∙
      sym (ap (λ (calls : List Call). (a p).calls ++ calls) (at (of_between readings negated low high silent) ∙ negated_calls negated (readings.between silent (made_of_comparison readings low) (made_of_comparison readings high)))))
      (λ negated list. at (of_one_of readings negated list a) ∙ negated_calls negated (readings.in_list a (map (made_of readings) list)) ∙
      sym (ap (λ (calls : List Call). (a p).calls ++ calls) (at (of_one_of readings negated list silent) ∙ negated_calls negated (readings.in_list silent (map (made_of readings) list)))))
      (λ negated pattern. at (of_like readings negated pattern a) ∙ negated_calls negated (readings.like a (made_of_comparison readings pattern)) ∙
      sym (ap (λ (calls : List Call). (a p).calls ++ calls) (at (of_like readings negated pattern silent) ∙ negated_calls negated (readings.like silent (made_of_comparison readings pattern)))))
      (λ negated truth. at (of_is readings negated truth a) ∙ negated_calls negated (readings.is truth a) ∙
      sym (ap (λ (calls : List Call). (a p).calls ++ calls) (at (of_is readings negated truth silent) ∙ negated_calls negated (readings.is truth silent)) ∙ append-nil (a p).calls))

  pub predicate_calls : (t : PredicateTree) (value : ComparisonTree) (asked : Test) → t ≡ predicate_tree value asked → calls_of_predicate t p ≡ calls_of_comparison value p ++ calls_of_test asked p
  unfolding calls_of_predicate calls_of_comparison
  predicate_calls t value asked e =
      ap (λ (tree : PredicateTree). (made_of_predicate readings tree p).calls) e ∙ at (of_predicate readings value asked) ∙ test_calls (made_of_comparison readings value) asked

  -- operands
  of : (t u : PrimaryTree) {calls : List Call} → t ≡ u → (made_of_primary readings u p).calls ≡ calls → calls_of_primary t p ≡ calls
  unfolding calls_of_primary
  of t u e h = ap (λ (tree : PrimaryTree). (made_of_primary readings tree p).calls) e ∙ h

  pub number_calls : (t : PrimaryTree) (negative : Bool) (n : ℕ) (long : Bool) → t ≡ primary.Number negative n long → calls_of_primary t p ≡ []
  number_calls t negative n long e = of t (primary.Number negative n long) e (at (of_number readings negative n long))

  pub literal_calls : (t : PrimaryTree) (content : List ℕ) → t ≡ primary.Literal content → calls_of_primary t p ≡ []
  literal_calls t content e = of t (primary.Literal content) e (at (of_literal readings content))

  pub boolean_calls : (t : PrimaryTree) (b : Bool) → t ≡ primary.Boolean b → calls_of_primary t p ≡ []
  boolean_calls t b e = of t (primary.Boolean b) e (at (of_boolean readings b))

  pub null_calls : (t : PrimaryTree) → t ≡ primary.Null → calls_of_primary t p ≡ []
  null_calls t e = of t primary.Null e (at (of_null readings))

  pub column_calls : (t : PrimaryTree) (name : List ℕ) → t ≡ primary.Column name → calls_of_primary t p ≡ []
  column_calls t name e = of t (primary.Column name) e (at (of_column readings name))

  pub table_column_calls : (t : PrimaryTree) (table name : List ℕ) → t ≡ primary.TableColumn table name → calls_of_primary t p ≡ []
  table_column_calls t table name e = of t (primary.TableColumn table name) e (at (of_table_column readings table name))

  pub paren_calls : (t : PrimaryTree) (value : OrTree) → t ≡ primary.Paren value → calls_of_primary t p ≡ calls_of_or value p
  unfolding calls_of_or
  paren_calls t value e = of t (primary.Paren value) e (at (of_paren readings value))

  pub cast_calls : (t : PrimaryTree) (value : OrTree) (kind : SqlType) → t ≡ primary.Cast value kind → calls_of_primary t p ≡ calls_of_or value p
  unfolding calls_of_or
  cast_calls t value kind e = of t (primary.Cast value kind) e (at (of_cast readings value kind))

  pub count_all_calls : (t : PrimaryTree) → t ≡ primary.CountAll → calls_of_primary t p ≡ call_of Count reading.counted ∷ []
  count_all_calls t e = of t primary.CountAll e (at (of_count_all readings))

  at_option : (tree : Option OrTree) → reading.calls_if_any (option_map (λ (a : Place → Reading). a p) (option_map (made_of readings) tree)) ≡ calls_if_any tree p
  unfolding calls_of_or
  at_option (Some tree) = refl
  at_option None = refl

  at_arms : (arms : List Arm) → flat_map (λ (arm : Reading × Reading). (arm.0).calls ++ (arm.1).calls)
      (map (λ (arm : (Place → Reading) × (Place → Reading)). (arm.0 p, arm.1 p)) (map (made_of_arm readings) arms)) ≡ calls_of_arms arms p
  unfolding calls_of_arm
  at_arms [] = refl
  at_arms (a ∷ arms) = ap (λ (calls : List Call). (((made_of_arm readings a).0 p).calls ++ ((made_of_arm readings a).1 p).calls) ++ calls) (at_arms arms)

  pub case_calls : (t : PrimaryTree) (operand : Option OrTree) (arms : List Arm) (otherwise : Option OrTree) → t ≡ primary.Case operand arms otherwise →
      calls_of_primary t p ≡ calls_if_any operand p ++ calls_of_arms arms p ++ calls_if_any otherwise p
  case_calls t operand arms otherwise e = of t (primary.Case operand arms otherwise) e (at (of_case readings operand arms otherwise) ∙
      (λ i. at_option operand i ++ at_arms arms i ++ at_option otherwise i))

  pub arm_calls : (t : Arm) (when gives : OrTree) → t ≡ arm when gives → calls_of_arm t p ≡ calls_of_or when p ++ calls_of_or gives p
  unfolding calls_of_arm calls_of_or
  arm_calls t when gives e =
      ap (λ (pair : Arm). ((made_of_arm readings pair).0 p).calls ++ ((made_of_arm readings pair).1 p).calls) e ∙
      ap (λ (a : (Place → Reading) × (Place → Reading)). (a.0 p).calls ++ (a.1 p).calls) (of_arm readings when gives)

  -- a call of a function that is no aggregate function
  pub other_calls : (t : PrimaryTree) (name : List ℕ) (arguments : List OrTree) → t ≡ primary.Call name arguments → aggregate_named name ≡ None → calls_of_primary t p ≡ calls_of_list arguments p
  other_calls t name arguments e h = of t (primary.Call name arguments) e (at (of_call readings name arguments) ∙
      ap (λ (fun : Option AggFun). (reading.call_reading name (map (made_of readings) arguments) p fun).calls) h ∙ at_list arguments)

-- the sole argument of an aggregate function
the_one : (name : List ℕ) (o : Outcome Typed) → upon (upon o (λ (x : Typed). Ok (x ∷ []))) (reading.the_argument name) ≡ o
the_one name (Ok x) = refl
the_one name (Err check) = refl

too_many : (name : List ℕ) (fun : AggFun) (o q : Outcome Typed) (rest : Outcome (List Typed)) →
    call_made fun (upon (upon o (λ (x : Typed). upon (upon q (λ (y : Typed). upon rest (λ (zs : List Typed). Ok (y ∷ zs)))) (λ (ys : List Typed). Ok (x ∷ ys)))) (reading.the_argument name)) ≡ []
too_many name fun (Err check) q rest = refl
too_many name fun (Ok x) (Err check) rest = refl
too_many name fun (Ok x) (Ok y) (Err check) = refl
too_many name fun (Ok x) (Ok y) (Ok zs) = refl

of_arguments : (name : List ℕ) (fun : AggFun) (arguments : List OrTree) (p : Place) →
    call_made fun (reading.argument_value name (map (λ (a : Place → Reading). a p) (map (made_of readings) arguments))) ≡ call_of_arguments fun arguments p
of_arguments name fun [] p = refl
of_arguments name fun (a ∷ []) p = ap (call_made fun) (the_one name (made_of readings a p).value)
of_arguments name fun (a ∷ b ∷ more) p =
    too_many name fun (made_of readings a p).value (made_of readings b p).value (reading.values (map (λ (a : Place → Reading). a p) (map (made_of readings) more)))

pub aggregate_calls : (p : Place) (t : PrimaryTree) (name : List ℕ) (arguments : List OrTree) (fun : AggFun) → t ≡ primary.Call name arguments → aggregate_named name ≡ Some fun →
    calls_of_primary t p ≡ call_of_arguments fun arguments (within_call p)
aggregate_calls p t name arguments fun e h = of p t (primary.Call name arguments) e (at (of_call readings name arguments) ∙
    ap (λ (fun : Option AggFun). (reading.call_reading name (map (made_of readings) arguments) p fun).calls) h ∙ of_arguments name fun arguments (within_call p))

-- the tree as a whole
pub all_calls : (tree : OrTree) (p : Place) → calls_of_or tree p ≡ (made_of readings tree p).calls
unfolding calls_of_or
all_calls tree p = refl

pub read_added : (a b : List typing.Call) (tree : OrTree) (p : Place) → Added a b (calls_of_or tree p) → Added a b (made_of readings tree p).calls
read_added a b tree p h = same_calls a b (calls_of_or tree p) (made_of readings tree p).calls (sym (all_calls tree p)) h

pub ruleset query_steps = (read_added)
