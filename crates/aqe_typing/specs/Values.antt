-- What the trees of each level come to at a place, and the steps that come to it.
use Rattle.std.specs.Prelude.{◌≡◌, ℕ, zero, suc, List, [], ◌∷◌, map, Bool, true, false, Option, option_map, Result, Vec, Ok, MatchResult}
use Rattle.aqe_trees.specs.declared.expression.OrTree.{OrTree}
use Rattle.aqe_trees.specs.declared.expression.AndTree.{AndTree}
use Rattle.aqe_trees.specs.declared.expression.NotTree.{NotTree}
use Rattle.aqe_trees.specs.declared.expression.PredicateTree.{PredicateTree}
use Rattle.aqe_trees.specs.declared.expression.Test.{Test}
use Rattle.aqe_trees.specs.declared.expression.ComparisonTree.{ComparisonTree}
use Rattle.aqe_trees.specs.declared.expression.SumTree.{SumTree}
use Rattle.aqe_trees.specs.declared.expression.Sign.{Sign}
use Rattle.aqe_trees.specs.declared.expression.ProductTree.{ProductTree}
use Rattle.aqe_trees.specs.declared.expression.SignTree.{SignTree}
use Rattle.aqe_trees.specs.declared.expression.PrimaryTree.{PrimaryTree}
use Rattle.aqe_trees.specs.declared.expression.Arm.{Arm}
use Rattle.aqe_rules.specs.declared.fault.AnalysisFault.{AnalysisFault}
use Rattle.aqe_rules.specs.Outcomes.{Outcome, upon, each, if_any}
use Rattle.aqe_rules.specs.Operations as operation
use Rattle.aqe_rules.specs.declared.typed.Typed.{Typed}
use Rattle.aqe_rules.specs.Readings.{Place, Reading, readings, arm_value}
use Rattle.aqe_rules.specs.Faults.{Fails, Says}
use Rattle.aqe_rules.specs.Trees.{made_of, made_of_and, made_of_not, made_of_predicate, made_of_test, made_of_comparison, made_of_sum, made_of_product, made_of_sign, made_of_primary, made_of_arm}

-- the trees of each level
unfoldable pub value_of_or : OrTree → Place → Outcome Typed
value_of_or tree place = (made_of readings tree place).value

unfoldable pub value_of_and : AndTree → Place → Outcome Typed
value_of_and tree place = (made_of_and readings tree place).value

unfoldable pub value_of_not : NotTree → Place → Outcome Typed
value_of_not tree place = (made_of_not readings tree place).value

unfoldable pub value_of_predicate : PredicateTree → Place → Outcome Typed
value_of_predicate tree place = (made_of_predicate readings tree place).value

unfoldable pub value_of_comparison : ComparisonTree → Place → Outcome Typed
value_of_comparison tree place = (made_of_comparison readings tree place).value

unfoldable pub value_of_sum : SumTree → Place → Outcome Typed
value_of_sum tree place = (made_of_sum readings tree place).value

unfoldable pub value_of_product : ProductTree → Place → Outcome Typed
value_of_product tree place = (made_of_product readings tree place).value

unfoldable pub value_of_sign : SignTree → Place → Outcome Typed
value_of_sign tree place = (made_of_sign readings tree place).value

unfoldable pub value_of_primary : PrimaryTree → Place → Outcome Typed
value_of_primary tree place = (made_of_primary readings tree place).value

-- a test, over the reading of the value that it asks about
unfoldable pub value_of_test : Test → (Place → Reading) → Place → Outcome Typed
value_of_test test value place = (made_of_test readings test value place).value

unfoldable pub value_of_arm : Arm → Place → Outcome (Typed × Typed)
value_of_arm arm place = arm_value ((made_of_arm readings arm).0 place, (made_of_arm readings arm).1 place)

-- several, and one that may be left out
abbrev pub values_of : List OrTree → Place → Outcome (List Typed)
values_of trees place = each (map (λ tree. value_of_or tree place) trees)

abbrev pub values_of_arms : List Arm → Place → Outcome (List (Typed × Typed))
values_of_arms arms place = each (map (λ arm. value_of_arm arm place) arms)

abbrev pub value_if_any : Option OrTree → Place → Outcome (Option Typed)
value_if_any tree place = if_any (option_map (λ t. value_of_or t place) tree)

-- a rule on what two operands come to, and three
abbrev pub on_two : (Typed → Typed → Outcome Typed) → Outcome Typed → Outcome Typed → Outcome Typed
on_two rule a b = upon a (λ x. upon b (rule x))

abbrev pub on_three : (Typed → Typed → Typed → Outcome Typed) → Outcome Typed → Outcome Typed → Outcome Typed → Outcome Typed
on_three rule a b c = upon a (λ x. upon b (λ y. upon c (rule x y)))

-- NOT, so many times, and where a test is negated; signs, the outermost first
abbrev pub not_times : ℕ → Outcome Typed → Outcome Typed
not_times zero a = a
not_times (suc n) a = upon (not_times n a) operation.negation

abbrev pub not_if : Bool → Outcome Typed → Outcome Typed
not_if true a = upon a operation.negation
not_if false a = a

abbrev pub with_signs : List Sign → Outcome Typed → Outcome Typed
with_signs [] a = a
with_signs (sign ∷ signs) a = upon (with_signs signs a) (operation.signed_operation sign)

-- CASE
abbrev pub case : Outcome (Option Typed) → Outcome (List (Typed × Typed)) → Outcome (Option Typed) → Outcome Typed
case operand arms otherwise = upon operand (λ a. upon arms (λ all. upon otherwise (λ e. operation.case a all e)))

-- what a call that reads several says
abbrev pub SaysAll : {T Z : Type 0} → Result (Vec T Z) AnalysisFault → Outcome (List T) → Type 0
SaysAll result outcome = MatchResult result (λ all. outcome ≡ Ok all.items) (λ f. Fails f outcome)

-- what CASE says upon its parts, whatever these say, and a test upon the value that it asks about
abbrev pub SaysCase : {Z : Type 0} → Result (Option Typed) AnalysisFault → Result (Vec (Typed × Typed) Z) AnalysisFault → Result (Option Typed) AnalysisFault → Result Typed AnalysisFault → Type 0
SaysCase operand arms otherwise result =
    (o : Outcome (Option Typed)) (p : Outcome (List (Typed × Typed))) (q : Outcome (Option Typed)) →
    Says operand o → SaysAll arms p → Says otherwise q → Says result (case o p q)

abbrev pub SaysTest : Test → Place → Result Typed AnalysisFault → Result Typed AnalysisFault → Type 0
SaysTest test place value result =
    (a : Place → Reading) → Says value (a place).value → Says result (value_of_test test a place)
