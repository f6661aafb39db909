-- The trees with one form, by their parts.
use Rattle.std.specs.Prelude.{ℕ, List, Bool, Option}
use Rattle.aqe_base.specs.declared.join_kind.JoinKind.{JoinKind}
use Rattle.aqe_values.specs.declared.sql_type.SqlType.{SqlType}
use Rattle.aqe_trees.specs.declared.expression.OrTree.{OrTree, roll-OrTree}
use Rattle.aqe_trees.specs.declared.expression.AndTree.{AndTree, roll-AndTree}
use Rattle.aqe_trees.specs.declared.expression.NotTree.{NotTree, roll-NotTree}
use Rattle.aqe_trees.specs.declared.expression.PredicateTree.{PredicateTree, roll-PredicateTree}
use Rattle.aqe_trees.specs.declared.expression.Test.{Test}
use Rattle.aqe_trees.specs.declared.expression.CompareOp.{CompareOp}
use Rattle.aqe_trees.specs.declared.expression.ComparisonTree.{ComparisonTree, roll-ComparisonTree}
use Rattle.aqe_trees.specs.declared.expression.Sign.{Sign}
use Rattle.aqe_trees.specs.declared.expression.SumTree.{SumTree, roll-SumTree}
use Rattle.aqe_trees.specs.declared.expression.ProductOp.{ProductOp}
use Rattle.aqe_trees.specs.declared.expression.ProductTree.{ProductTree, roll-ProductTree}
use Rattle.aqe_trees.specs.declared.expression.SignTree.{SignTree, roll-SignTree}
use Rattle.aqe_trees.specs.declared.expression.PrimaryTree.{PrimaryTree}
use Rattle.aqe_trees.specs.declared.expression.Arm.{Arm, roll-Arm}
use Rattle.aqe_trees.specs.declared.query.QueryTree.{QueryTree, roll-QueryTree}
use Rattle.aqe_trees.specs.declared.query.UnionTree.{UnionTree, roll-UnionTree}
use Rattle.aqe_trees.specs.declared.query.CoreTree.{CoreTree}
use Rattle.aqe_trees.specs.declared.query.SelectTree.{SelectTree, roll-SelectTree}
use Rattle.aqe_trees.specs.declared.query.ItemTree.{ItemTree}
use Rattle.aqe_trees.specs.declared.query.JoinedTree.{JoinedTree, roll-JoinedTree}
use Rattle.aqe_trees.specs.declared.query.JoinStep.{JoinStep, roll-JoinStep}
use Rattle.aqe_trees.specs.declared.query.SourceTree.{SourceTree}
use Rattle.aqe_trees.specs.declared.query.SortTree.{SortTree}
use Rattle.aqe_trees.specs.declared.statement.TableForm.{TableForm}
use Rattle.aqe_trees.specs.declared.statement.SetForm.{SetForm}

-- operands of OR
abbrev pub or_tree : AndTree → List AndTree → OrTree
or_tree first rest = roll-OrTree (record { first = first; rest = rest })

-- operands of AND
abbrev pub and_tree : NotTree → List NotTree → AndTree
and_tree first rest = roll-AndTree (record { first = first; rest = rest })

-- a predicate under so many NOTs
abbrev pub not_tree : ℕ → PredicateTree → NotTree
not_tree count operand = roll-NotTree (record { count = count; operand = operand })

-- a value and what is asked of it
abbrev pub predicate_tree : ComparisonTree → Test → PredicateTree
predicate_tree value test = roll-PredicateTree (record { value = value; test = test })

-- operands with the comparisons between them
abbrev pub comparison_tree : SumTree → List (CompareOp × SumTree) → ComparisonTree
comparison_tree first rest = roll-ComparisonTree (record { first = first; rest = rest })

-- operands with the signs between them
abbrev pub sum_tree : ProductTree → List (Sign × ProductTree) → SumTree
sum_tree first rest = roll-SumTree (record { first = first; rest = rest })

-- operands with the operators between them
abbrev pub product_tree : SignTree → List (ProductOp × SignTree) → ProductTree
product_tree first rest = roll-ProductTree (record { first = first; rest = rest })

-- an operand under its signs, the outermost first
abbrev pub sign_tree : List Sign → PrimaryTree → SignTree
sign_tree signs operand = roll-SignTree (record { signs = signs; operand = operand })

-- WHEN and THEN of a CASE
abbrev pub arm : OrTree → OrTree → Arm
arm when gives = roll-Arm (record { when = when; gives = gives })

-- a body with its ORDER BY, LIMIT and OFFSET
abbrev pub query_tree : UnionTree → List SortTree → Option ℕ → Option ℕ → QueryTree
query_tree body order limit offset = roll-QueryTree (record { body = body; order = order; limit = limit; offset = offset })

-- cores, each further one with whether equal rows count once
abbrev pub union_tree : CoreTree → List (Bool × CoreTree) → UnionTree
union_tree first rest = roll-UnionTree (record { first = first; rest = rest })

-- the parts of a SELECT
abbrev pub select_tree : Bool → List ItemTree → List JoinedTree → Option OrTree → List OrTree → Option OrTree → SelectTree
select_tree distinct items from filter group having =
    roll-SelectTree (record { distinct = distinct; items = items; from = from; filter = filter; group = group; having = having })

-- a source and what is joined to it
abbrev pub joined_tree : SourceTree → List JoinStep → JoinedTree
joined_tree first rest = roll-JoinedTree (record { first = first; rest = rest })

-- a source that is joined, and its condition
abbrev pub join_step : JoinKind → SourceTree → Option OrTree → JoinStep
join_step kind source on = roll-JoinStep (record { kind = kind; source = source; on = on })

-- a key of ORDER BY
abbrev pub sort_tree : OrTree → Bool → Bool → SortTree
sort_tree value descending nulls_last = record { value = value; descending = descending; nulls_last = nulls_last }

-- a table as it is created
abbrev pub table_form : List ℕ → List (List ℕ × SqlType) → List (List ℕ × List ℕ) → List ℕ → TableForm
table_form name columns options location = record { name = name; columns = columns; options = options; location = location }

-- a setting
abbrev pub set_form : List ℕ → List ℕ → SetForm
set_form key value = record { key = key; value = value }
