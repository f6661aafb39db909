-- The aggregate calls in the trees of each level, from left to right.
use Rattle.std.specs.Prelude.{ℕ, List, [], ◌∷◌, ◌++◌, cond, flat_map, Option, Some, None, Ok}
use Rattle.aqe_logical.specs.declared.plan.AggFun.{AggFun}
use Rattle.aqe_trees.specs.declared.expression.OrTree.{OrTree}
use Rattle.aqe_trees.specs.declared.expression.AndTree.{AndTree}
use Rattle.aqe_trees.specs.declared.expression.NotTree.{NotTree}
use Rattle.aqe_trees.specs.declared.expression.PredicateTree.{PredicateTree}
use Rattle.aqe_trees.specs.declared.expression.Test.{Test}
use Rattle.aqe_trees.specs.declared.expression.ComparisonTree.{ComparisonTree}
use Rattle.aqe_trees.specs.declared.expression.SumTree.{SumTree}
use Rattle.aqe_trees.specs.declared.expression.ProductTree.{ProductTree}
use Rattle.aqe_trees.specs.declared.expression.SignTree.{SignTree}
use Rattle.aqe_trees.specs.declared.expression.PrimaryTree.{PrimaryTree}
use Rattle.aqe_trees.specs.declared.expression.Arm.{Arm}
use Rattle.aqe_rules.specs.Expressions.{read}
use Rattle.aqe_rules.specs.Operations as operation
use Rattle.aqe_rules.specs.Readings.{Place, Reading, Call, readings, leaf, call_made}
use Rattle.aqe_rules.specs.Selects.{with_aliases}
use Rattle.aqe_rules.specs.Trees.{made_of, made_of_and, made_of_not, made_of_predicate, made_of_test, made_of_comparison, made_of_sum, made_of_product, made_of_sign, made_of_primary, made_of_arm}
use Rattle.aqe_calls.specs.declared.scope.Scope.{Scope}

-- where no aggregate call may stand: within another one
abbrev pub place_of : Scope → Place
place_of s = with_aliases s.columns.now s.list.now []

-- the trees of each level
unfoldable pub calls_of_or : OrTree → Place → List Call
calls_of_or tree place = (made_of readings tree place).calls

unfoldable pub calls_of_and : AndTree → Place → List Call
calls_of_and tree place = (made_of_and readings tree place).calls

unfoldable pub calls_of_not : NotTree → Place → List Call
calls_of_not tree place = (made_of_not readings tree place).calls

unfoldable pub calls_of_predicate : PredicateTree → Place → List Call
calls_of_predicate tree place = (made_of_predicate readings tree place).calls

unfoldable pub calls_of_comparison : ComparisonTree → Place → List Call
calls_of_comparison tree place = (made_of_comparison readings tree place).calls

unfoldable pub calls_of_sum : SumTree → Place → List Call
calls_of_sum tree place = (made_of_sum readings tree place).calls

unfoldable pub calls_of_product : ProductTree → Place → List Call
calls_of_product tree place = (made_of_product readings tree place).calls

unfoldable pub calls_of_sign : SignTree → Place → List Call
calls_of_sign tree place = (made_of_sign readings tree place).calls

unfoldable pub calls_of_primary : PrimaryTree → Place → List Call
calls_of_primary tree place = (made_of_primary readings tree place).calls

-- a value that calls nothing, and the calls in a test of one
abbrev pub silent : Place → Reading
silent place = leaf (Ok operation.null)

unfoldable pub calls_of_test : Test → Place → List Call
calls_of_test test place = (made_of_test readings test silent place).calls

unfoldable pub calls_of_arm : Arm → Place → List Call
calls_of_arm arm place = ((made_of_arm readings arm).0 place).calls ++ ((made_of_arm readings arm).1 place).calls

-- several, and one that may be left out
abbrev pub calls_of_list : List OrTree → Place → List Call
calls_of_list trees place = flat_map (λ tree. calls_of_or tree place) trees

abbrev pub calls_of_arms : List Arm → Place → List Call
calls_of_arms arms place = flat_map (λ arm. calls_of_arm arm place) arms

abbrev pub calls_if_any : Option OrTree → Place → List Call
calls_if_any None place = []
calls_if_any (Some tree) place = calls_of_or tree place

-- an aggregate function of one argument alone
abbrev pub call_of_arguments : AggFun → List OrTree → Place → List Call
call_of_arguments fun (argument ∷ []) place = call_made fun (read argument place).value
call_of_arguments fun other place = []
