-- The nesting of an expression: how many nodes lie above each other where it is deepest, that node counted too.
--
-- Each operator, test, NOT, sign, pair of parentheses, call, CAST and CASE counts one, and so does a literal and a name.
-- Operators of one level group to the left.
use Rattle.std.specs.Prelude.{ℕ, suc, ◌+◌, max, List, [], ◌∷◌, map, length, Option, Some, None}
use Rattle.aqe_trees.specs.declared.expression.OrTree.{OrTree, OrTree-F, fold-OrTree}
use Rattle.aqe_trees.specs.declared.expression.AndTree.{AndTree-F}
use Rattle.aqe_trees.specs.declared.expression.NotTree.{NotTree-F}
use Rattle.aqe_trees.specs.declared.expression.PredicateTree.{PredicateTree-F}
use Rattle.aqe_trees.specs.declared.expression.Test.{Test-F}
use Rattle.aqe_trees.specs.declared.expression.ComparisonTree.{ComparisonTree-F}
use Rattle.aqe_trees.specs.declared.expression.SumTree.{SumTree-F}
use Rattle.aqe_trees.specs.declared.expression.ProductTree.{ProductTree-F}
use Rattle.aqe_trees.specs.declared.expression.SignTree.{SignTree-F}
use Rattle.aqe_trees.specs.declared.expression.PrimaryTree.{PrimaryTree-F}
use Rattle.aqe_trees.specs.declared.expression.Arm.{Arm-F}

-- a node over two parts
abbrev pub over : ℕ → ℕ → ℕ
over a b = suc (max a b)

-- the greatest of some, 0 where there is none
abbrev pub deepest : List ℕ → ℕ
deepest [] = 0
deepest (a ∷ rest) = max a (deepest rest)

-- of a part that may be missing
abbrev pub of_maybe : Option ℕ → ℕ
of_maybe None = 0
of_maybe (Some a) = a

-- a first operand and further ones, under the operators between them from left to right
abbrev pub chain_depth : ℕ → List ℕ → ℕ
chain_depth a [] = a
chain_depth a (b ∷ rest) = chain_depth (over a b) rest

-- What each level of the tree makes of the nestings of its parts.

-- operands of OR, AND, comparisons, signs and products: each operator lies above what stands before it
abbrev pub or_level : OrTree-F ℕ (ℕ → ℕ) ℕ ℕ ℕ ℕ ℕ ℕ ℕ ℕ ℕ → ℕ
or_level l = chain_depth l.first l.rest

abbrev pub and_level : AndTree-F ℕ (ℕ → ℕ) ℕ ℕ ℕ ℕ ℕ ℕ ℕ ℕ ℕ → ℕ
and_level l = chain_depth l.first l.rest

abbrev pub comparison_level : ComparisonTree-F ℕ (ℕ → ℕ) ℕ ℕ ℕ ℕ ℕ ℕ ℕ ℕ ℕ → ℕ
comparison_level l = chain_depth l.first (map (λ next. next.1) l.rest)

abbrev pub sum_level : SumTree-F ℕ (ℕ → ℕ) ℕ ℕ ℕ ℕ ℕ ℕ ℕ ℕ ℕ → ℕ
sum_level l = chain_depth l.first (map (λ next. next.1) l.rest)

abbrev pub product_level : ProductTree-F ℕ (ℕ → ℕ) ℕ ℕ ℕ ℕ ℕ ℕ ℕ ℕ ℕ → ℕ
product_level l = chain_depth l.first (map (λ next. next.1) l.rest)

-- each NOT of the run lies above the predicate
abbrev pub not_level : NotTree-F ℕ (ℕ → ℕ) ℕ ℕ ℕ ℕ ℕ ℕ ℕ ℕ ℕ → ℕ
not_level l = l.count + l.operand

-- a test lies above its value, so that its level is made of the nesting of that value
abbrev pub predicate_level : PredicateTree-F ℕ (ℕ → ℕ) ℕ ℕ ℕ ℕ ℕ ℕ ℕ ℕ ℕ → ℕ
predicate_level l = l.test l.value

abbrev pub test_level : Test-F ℕ (ℕ → ℕ) ℕ ℕ ℕ ℕ ℕ ℕ ℕ ℕ ℕ → ℕ → ℕ
test_level Test-F.Plain a = a
test_level (Test-F.Between negated low high) a = suc (max a (max low high))
test_level (Test-F.OneOf negated list) a = suc (max a (deepest list))
test_level (Test-F.Like negated pattern) a = suc (max a pattern)
test_level (Test-F.Is negated truth) a = suc a

-- each sign of the run lies above the operand
abbrev pub sign_level : SignTree-F ℕ (ℕ → ℕ) ℕ ℕ ℕ ℕ ℕ ℕ ℕ ℕ ℕ → ℕ
sign_level l = length l.signs + l.operand

-- a pair of parentheses, a CAST, a CASE and a call lie above what is in them; each other operand is one node
abbrev pub primary_level : PrimaryTree-F ℕ (ℕ → ℕ) ℕ ℕ ℕ ℕ ℕ ℕ ℕ ℕ ℕ → ℕ
primary_level (PrimaryTree-F.Paren a) = suc a
primary_level (PrimaryTree-F.Cast a kind) = suc a
primary_level (PrimaryTree-F.Case operand arms otherwise) = suc (max (of_maybe operand) (max (deepest arms) (of_maybe otherwise)))
primary_level (PrimaryTree-F.Call name arguments) = suc (deepest arguments)
primary_level _ = 1

-- WHEN and THEN
abbrev pub arm_level : Arm-F ℕ (ℕ → ℕ) ℕ ℕ ℕ ℕ ℕ ℕ ℕ ℕ ℕ → ℕ
arm_level l = max l.when l.gives

-- the nesting of an expression: its levels, from the innermost outwards
abbrev pub or_nesting : OrTree → ℕ
or_nesting = fold-OrTree ℕ (ℕ → ℕ) ℕ ℕ ℕ ℕ ℕ ℕ ℕ ℕ ℕ primary_level test_level and_level arm_level comparison_level not_level or_level predicate_level product_level sign_level sum_level
