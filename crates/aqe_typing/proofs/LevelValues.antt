-- What a tree of each level comes to, from what its parts come to.
use Rattle.std.proofs.Common.{◌≡◌, ℕ, zero, suc, Bool, true, false, List, [], ◌∷◌, map, Option, Some, None, length, Ok, refl, ap, sym, ◌∙◌, codes}
use Rattle.std.specs.Prelude.{fold, option_map}
use Rattle.aqe_values.specs.declared.sql_type.SqlType.{SqlType}
use Rattle.aqe_expr.specs.declared.expr.BinaryOp.TheVariants as binary
use Rattle.aqe_logical.specs.declared.plan.AggFun.{AggFun}
use Rattle.aqe_logical.specs.declared.plan.AggFun.TheVariants.{Count}
use Rattle.aqe_trees.specs.declared.expression.OrTree.{OrTree}
use Rattle.aqe_trees.specs.declared.expression.AndTree.{AndTree}
use Rattle.aqe_trees.specs.declared.expression.NotTree.{NotTree}
use Rattle.aqe_trees.specs.declared.expression.PredicateTree.{PredicateTree}
use Rattle.aqe_trees.specs.declared.expression.Test.{Test}
use Rattle.aqe_trees.specs.declared.expression.Test.TheVariants as test
use Rattle.aqe_trees.specs.declared.expression.Truth.{Truth}
use Rattle.aqe_trees.specs.declared.expression.CompareOp.{CompareOp}
use Rattle.aqe_trees.specs.declared.expression.ComparisonTree.{ComparisonTree}
use Rattle.aqe_trees.specs.declared.expression.SumTree.{SumTree}
use Rattle.aqe_trees.specs.declared.expression.Sign.{Sign}
use Rattle.aqe_trees.specs.declared.expression.ProductTree.{ProductTree}
use Rattle.aqe_trees.specs.declared.expression.ProductOp.{ProductOp}
use Rattle.aqe_trees.specs.declared.expression.SignTree.{SignTree}
use Rattle.aqe_trees.specs.declared.expression.PrimaryTree.{PrimaryTree}
use Rattle.aqe_trees.specs.declared.expression.PrimaryTree.TheVariants as primary
use Rattle.aqe_trees.specs.declared.expression.Arm.{Arm}
use Rattle.aqe_trees.specs.Shapes.{or_tree, and_tree, not_tree, predicate_tree, comparison_tree, sum_tree, product_tree, sign_tree, arm}
use Rattle.aqe_rules.specs.declared.typed.Typed.{Typed}
use Rattle.aqe_rules.specs.Outcomes.{Outcome, upon, each}
use Rattle.aqe_rules.specs.Operations as operation
use Rattle.aqe_rules.specs.Readings as reading
use Rattle.aqe_rules.specs.Readings.{Place, Reading, readings, within_call, column_named, column_of_item, aggregate_named}
use Rattle.aqe_rules.specs.Trees.{times, under_signs, negated_if, chain, chain_of_one, made_of, made_of_and, made_of_not, made_of_predicate, made_of_comparison, made_of_sum, made_of_product, made_of_sign, made_of_primary, made_of_arm}
use Rattle.aqe_rules.proofs.Levels.{of_or, of_and, of_not, of_predicate, of_comparison, of_sum, of_product, of_sign, of_arm, of_number, of_literal, of_boolean, of_null, of_column, of_table_column, of_paren, of_cast, of_count_all, of_call, of_case, of_plain, of_between, of_one_of, of_like, of_is}
use Rattle.aqe_typing.specs.Values.{value_of_or, value_of_and, value_of_not, value_of_predicate, value_of_test, value_of_comparison, value_of_sum, value_of_product, value_of_sign, value_of_primary, value_of_arm, values_of, values_of_arms, value_if_any, on_two, on_three, not_times, not_if, with_signs, case}
use Rattle.aqe_typing.specs.declared.calls.Call.{Call}
use Rattle.aqe_typing.specs.Calls.{at_calls, arguments_at, calls_within, aggregate_call, called}

-- at a place
at : {p : Place} {a b : Place → Reading} → a ≡ b → (a p).value ≡ (b p).value
at {p = p} e = ap (λ (r : Place → Reading). (r p).value) e

-- chains, from left to right
chain_values : {T : Type 0} (rule : Typed → Typed → Outcome Typed) (made : T → Place → Reading) (a : Place → Reading) (ts : List T) (p : Place) →
    (chain_of_one (λ (x y : Place → Reading) (q : Place). reading.on_two (x q) (y q) rule) a (map made ts) p).value ≡ fold (λ (o : Outcome Typed) (t : T). on_two rule o (made t p).value) (a p).value ts
chain_values rule made a [] p = refl
chain_values rule made a (t ∷ ts) p = chain_values rule made (λ (q : Place). reading.on_two (a q) (made t q) rule) ts p

chain_of_pairs : {B T : Type 0} (rule : B → Typed → Typed → Outcome Typed) (made : T → Place → Reading) (a : Place → Reading) (ts : List (B × T)) (p : Place) →
    (chain (λ (op : B) (x y : Place → Reading) (q : Place). reading.on_two (x q) (y q) (rule op)) a (map (λ next. (next.0, made next.1)) ts) p).value ≡
    fold (λ (o : Outcome Typed) (next : B × T). on_two (rule next.0) o (made next.1 p).value) (a p).value ts
chain_of_pairs rule made a [] p = refl
chain_of_pairs rule made a (t ∷ ts) p = chain_of_pairs rule made (λ (q : Place). reading.on_two (a q) (made t.1 q) (rule t.0)) ts p

-- one operand more
abbrev pub or_step : Place → Outcome Typed → AndTree → Outcome Typed
or_step p o t = on_two (operation.logical binary.Or) o (value_of_and t p)

pub or_value : (first : AndTree) (rest : List AndTree) (p : Place) →
    value_of_or (or_tree first rest) p ≡ fold (or_step p) (value_of_and first p) rest
unfolding value_of_or value_of_and
or_value first rest p = at (of_or readings first rest) ∙ chain_values (operation.logical binary.Or) (made_of_and readings) (made_of_and readings first) rest p

-- one operand more
abbrev pub and_step : Place → Outcome Typed → NotTree → Outcome Typed
and_step p o t = on_two (operation.logical binary.And) o (value_of_not t p)

pub and_value : (first : NotTree) (rest : List NotTree) (p : Place) →
    value_of_and (and_tree first rest) p ≡ fold (and_step p) (value_of_not first p) rest
unfolding value_of_and value_of_not
and_value first rest p = at (of_and readings first rest) ∙ chain_values (operation.logical binary.And) (made_of_not readings) (made_of_not readings first) rest p

-- one operand more
abbrev pub comparison_step : Place → Outcome Typed → (CompareOp × SumTree) → Outcome Typed
comparison_step p o next = on_two (operation.comparison next.0) o (value_of_sum next.1 p)

pub comparison_value : (first : SumTree) (rest : List (CompareOp × SumTree)) (p : Place) →
    value_of_comparison (comparison_tree first rest) p ≡ fold (comparison_step p) (value_of_sum first p) rest
unfolding value_of_comparison value_of_sum
comparison_value first rest p = at (of_comparison readings first rest) ∙ chain_of_pairs operation.comparison (made_of_sum readings) (made_of_sum readings first) rest p

-- one operand more
abbrev pub sum_step : Place → Outcome Typed → (Sign × ProductTree) → Outcome Typed
sum_step p o next = on_two (operation.sum_operation next.0) o (value_of_product next.1 p)

pub sum_value : (first : ProductTree) (rest : List (Sign × ProductTree)) (p : Place) →
    value_of_sum (sum_tree first rest) p ≡ fold (sum_step p) (value_of_product first p) rest
unfolding value_of_sum value_of_product
sum_value first rest p = at (of_sum readings first rest) ∙ chain_of_pairs operation.sum_operation (made_of_product readings) (made_of_product readings first) rest p

-- one operand more
abbrev pub product_step : Place → Outcome Typed → (ProductOp × SignTree) → Outcome Typed
product_step p o next = on_two (operation.product_operation next.0) o (value_of_sign next.1 p)

pub product_value : (first : SignTree) (rest : List (ProductOp × SignTree)) (p : Place) →
    value_of_product (product_tree first rest) p ≡ fold (product_step p) (value_of_sign first p) rest
unfolding value_of_product value_of_sign
product_value first rest p = at (of_product readings first rest) ∙ chain_of_pairs operation.product_operation (made_of_sign readings) (made_of_sign readings first) rest p

-- NOTs and signs
times_value : (n : ℕ) (a : Place → Reading) (p : Place) → (times readings.negation n a p).value ≡ not_times n (a p).value
times_value zero a p = refl
times_value (suc n) a p = ap (λ (o : Outcome Typed). upon o operation.negation) (times_value n a p)

pub not_value : (count : ℕ) (operand : PredicateTree) (p : Place) → value_of_not (not_tree count operand) p ≡ not_times count (value_of_predicate operand p)
unfolding value_of_not value_of_predicate
not_value count operand p = at (of_not readings count operand) ∙ times_value count (made_of_predicate readings operand) p

signs_value : (signs : List Sign) (a : Place → Reading) (p : Place) → (under_signs readings signs a p).value ≡ with_signs signs (a p).value
signs_value [] a p = refl
signs_value (sign ∷ signs) a p = ap (λ (o : Outcome Typed). upon o (operation.signed_operation sign)) (signs_value signs a p)

pub sign_value : (signs : List Sign) (operand : PrimaryTree) (p : Place) → value_of_sign (sign_tree signs operand) p ≡ with_signs signs (value_of_primary operand p)
unfolding value_of_sign value_of_primary
sign_value signs operand p = at (of_sign readings signs operand) ∙ signs_value signs (made_of_primary readings operand) p

-- a value under its test
pub predicate_value : (value : ComparisonTree) (asked : Test) (p : Place) → value_of_predicate (predicate_tree value asked) p ≡ value_of_test asked (made_of_comparison readings value) p
unfolding value_of_predicate value_of_test
predicate_value value asked p = at (of_predicate readings value asked)

pub is_comparison : (tree : ComparisonTree) (p : Place) → value_of_comparison tree p ≡ (made_of_comparison readings tree p).value
unfolding value_of_comparison
is_comparison tree p = refl

not_if_value : (negated : Bool) (a : Place → Reading) (p : Place) → (negated_if readings negated a p).value ≡ not_if negated (a p).value
not_if_value true a p = refl
not_if_value false a p = refl

at_list : (trees : List OrTree) (p : Place) → map (λ (r : Reading). r.value) (map (λ (a : Place → Reading). a p) (map (made_of readings) trees)) ≡ map (λ (t : OrTree). value_of_or t p) trees
unfolding value_of_or
at_list [] p = refl
at_list (t ∷ ts) p = ap (λ (os : List (Outcome Typed)). (made_of readings t p).value ∷ os) (at_list ts p)

pub plain_value : (a : Place → Reading) (p : Place) → value_of_test test.Plain a p ≡ (a p).value
unfolding value_of_test
plain_value a p = at (of_plain readings a)

pub between_value : (negated : Bool) (low high : ComparisonTree) (a : Place → Reading) (p : Place) →
    value_of_test (test.Between negated low high) a p ≡ not_if negated (on_three operation.between (a p).value (value_of_comparison low p) (value_of_comparison high p))
unfolding value_of_test value_of_comparison
between_value negated low high a p = at (of_between readings negated low high a) ∙ not_if_value negated (readings.between a (made_of_comparison readings low) (made_of_comparison readings high)) p

pub one_of_value : (negated : Bool) (list : List OrTree) (a : Place → Reading) (p : Place) →
    value_of_test (test.OneOf negated list) a p ≡ not_if negated (upon (a p).value (λ x. upon (values_of list p) (operation.in_list x)))
unfolding value_of_test
one_of_value negated list a p =
    at (of_one_of readings negated list a) ∙ not_if_value negated (readings.in_list a (map (made_of readings) list)) p ∙
    ap (λ (os : List (Outcome Typed)). not_if negated (upon (a p).value (λ x. upon (each os) (operation.in_list x)))) (at_list list p)

pub like_value : (negated : Bool) (pattern : ComparisonTree) (a : Place → Reading) (p : Place) →
    value_of_test (test.Like negated pattern) a p ≡ not_if negated (on_two operation.like (a p).value (value_of_comparison pattern p))
unfolding value_of_test value_of_comparison
like_value negated pattern a p = at (of_like readings negated pattern a) ∙ not_if_value negated (readings.like a (made_of_comparison readings pattern)) p

pub is_value : (negated : Bool) (truth : Truth) (a : Place → Reading) (p : Place) → value_of_test (test.Is negated truth) a p ≡ not_if negated (upon (a p).value (operation.is_operation truth))
unfolding value_of_test
is_value negated truth a p = at (of_is readings negated truth a) ∙ not_if_value negated (readings.is truth a) p

-- operands
module _ (p : Place) where
  pub number_value : (negative : Bool) (n : ℕ) (long : Bool) → value_of_primary (primary.Number negative n long) p ≡ Ok (operation.number negative n long)
  unfolding value_of_primary
  number_value negative n long = at (of_number readings negative n long)

  pub literal_value : (content : List ℕ) → value_of_primary (primary.Literal content) p ≡ Ok (operation.text content)
  unfolding value_of_primary
  literal_value content = at (of_literal readings content)

  pub boolean_value : (b : Bool) → value_of_primary (primary.Boolean b) p ≡ Ok (operation.boolean b)
  unfolding value_of_primary
  boolean_value b = at (of_boolean readings b)

  pub null_value : value_of_primary primary.Null p ≡ Ok operation.null
  unfolding value_of_primary
  null_value = at (of_null readings)

  pub column_value : (name : List ℕ) → value_of_primary (primary.Column name) p ≡ column_named name p
  unfolding value_of_primary
  column_value name = at (of_column readings name)

  pub table_column_value : (table name : List ℕ) → value_of_primary (primary.TableColumn table name) p ≡ column_of_item table name p
  unfolding value_of_primary
  table_column_value table name = at (of_table_column readings table name)

  pub paren_value : (value : OrTree) → value_of_primary (primary.Paren value) p ≡ value_of_or value p
  unfolding value_of_primary value_of_or
  paren_value value = at (of_paren readings value)

  pub cast_value : (value : OrTree) (kind : SqlType) → value_of_primary (primary.Cast value kind) p ≡ upon (value_of_or value p) (λ x. Ok (operation.cast kind x))
  unfolding value_of_primary value_of_or
  cast_value value kind = at (of_cast readings value kind)

  at_option : (tree : Option OrTree) → reading.value_if_any (option_map (λ (a : Place → Reading). a p) (option_map (made_of readings) tree)) ≡ value_if_any tree p
  unfolding value_of_or
  at_option (Some tree) = refl
  at_option None = refl

  at_arms : (arms : List Arm) → map reading.arm_value (map (λ (arm : (Place → Reading) × (Place → Reading)). (arm.0 p, arm.1 p)) (map (made_of_arm readings) arms)) ≡ map (λ (a : Arm). value_of_arm a p) arms
  unfolding value_of_arm
  at_arms [] = refl
  at_arms (a ∷ arms) = ap (λ (os : List (Outcome (Typed × Typed))). reading.arm_value ((made_of_arm readings a).0 p, (made_of_arm readings a).1 p) ∷ os) (at_arms arms)

  pub case_value : (operand : Option OrTree) (arms : List Arm) (otherwise : Option OrTree) →
      value_of_primary (primary.Case operand arms otherwise) p ≡ case (value_if_any operand p) (values_of_arms arms p) (value_if_any otherwise p)
  unfolding value_of_primary
  case_value operand arms otherwise =
      at (of_case readings operand arms otherwise) ∙
      ap (λ (o : Outcome (Option Typed)). case o (each (map reading.arm_value (map (λ (arm : (Place → Reading) × (Place → Reading)). (arm.0 p, arm.1 p)) (map (made_of_arm readings) arms)))) (reading.value_if_any (option_map (λ (a : Place → Reading). a p) (option_map (made_of readings) otherwise)))) (at_option operand) ∙
      ap (λ (os : List (Outcome (Typed × Typed))). case (value_if_any operand p) (each os) (reading.value_if_any (option_map (λ (a : Place → Reading). a p) (option_map (made_of readings) otherwise)))) (at_arms arms) ∙
      ap (λ (o : Outcome (Option Typed)). case (value_if_any operand p) (values_of_arms arms p) o) (at_option otherwise)

  pub arm_value : (when gives : OrTree) → value_of_arm (arm when gives) p ≡ upon (value_of_or when p) (λ test. upon (value_of_or gives p) (λ gives. Ok (test, gives)))
  unfolding value_of_arm value_of_or
  arm_value when gives = ap (λ (a : (Place → Reading) × (Place → Reading)). reading.arm_value (a.0 p, a.1 p)) (of_arm readings when gives)

-- calls, and where their arguments stand
pub count_all_value : (p : Place) (n : ℕ) → n ≡ length p.columns → value_of_primary primary.CountAll p ≡ aggregate_call (codes "count") Count n p.calls reading.counted
unfolding value_of_primary
count_all_value p n e = at (of_count_all readings) ∙ ap (λ (m : ℕ). aggregate_call (codes "count") Count m p.calls reading.counted) (sym e)

called_at : (name : List ℕ) (arguments : List OrTree) (p : Place) (fun : Option AggFun) →
    (reading.call_reading name (map (made_of readings) arguments) p fun).value ≡ called name fun (length p.columns) p.calls (values_of arguments (arguments_at fun p))
called_at name arguments p (Some fun) = ap (λ (os : List (Outcome Typed)). called name (Some fun) (length p.columns) p.calls (each os)) (at_list arguments (within_call p))
called_at name arguments p None = ap (λ (os : List (Outcome Typed)). called name None (length p.columns) p.calls (each os)) (at_list arguments p)

pub called_value : (name : List ℕ) (arguments : List OrTree) (p : Place) (fun : Option AggFun) (n : ℕ) → fun ≡ aggregate_named name → n ≡ length p.columns →
    value_of_primary (primary.Call name arguments) p ≡ called name fun n p.calls (values_of arguments (arguments_at fun p))
unfolding value_of_primary
called_value name arguments p fun n e h = rw (e, h) (at (of_call readings name arguments) ∙ called_at name arguments p (aggregate_named name))

pub inner_place : (fun : Option AggFun) (p : Place) (calls inner : List Call) → inner ≡ calls_within fun calls → at_calls p inner ≡ arguments_at fun (at_calls p calls)
inner_place (Some fun) p calls inner e = ap (at_calls p) e
inner_place None p calls inner e = ap (at_calls p) e

-- the tree as a whole
pub is_read : (tree : OrTree) (p : Place) → value_of_or tree p ≡ (made_of readings tree p).value
unfolding value_of_or
is_read tree p = refl
