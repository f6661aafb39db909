-- The nesting of a part of a query, for the contracts of the private functions that walk over it.
--
-- `query_nesting` of `QueryNesting.antt` is what is promised; these are the same fold, begun at another level.
use Rattle.std.specs.Prelude.{ℕ}
use Rattle.aqe_trees.specs.declared.query.UnionTree.{UnionTree, fold-UnionTree}
use Rattle.aqe_trees.specs.declared.query.CoreTree.{CoreTree, fold-CoreTree}
use Rattle.aqe_trees.specs.declared.query.SelectTree.{SelectTree, fold-SelectTree}
use Rattle.aqe_trees.specs.declared.query.JoinedTree.{JoinedTree, fold-JoinedTree}
use Rattle.aqe_trees.specs.declared.query.JoinStep.{JoinStep, fold-JoinStep}
use Rattle.aqe_trees.specs.declared.query.SourceTree.{SourceTree, fold-SourceTree}
pub use Rattle.aqe_script.specs.QueryNesting.{item_nesting, clause_nesting, sort_nesting, from_depth, query_nesting, nesting}
use Rattle.aqe_script.specs.QueryNesting.{query_level, union_level, core_level, select_level, joined_level, step_level, source_level}

unfoldable pub union_nesting : UnionTree → ℕ
union_nesting = fold-UnionTree ℕ ℕ ℕ ℕ ℕ ℕ ℕ core_level source_level step_level joined_level query_level select_level union_level

unfoldable pub core_nesting : CoreTree → ℕ
core_nesting = fold-CoreTree ℕ ℕ ℕ ℕ ℕ ℕ ℕ core_level source_level step_level joined_level query_level select_level union_level

abbrev pub select_nesting : SelectTree → ℕ
select_nesting = fold-SelectTree ℕ ℕ ℕ ℕ ℕ ℕ ℕ core_level source_level step_level joined_level query_level select_level union_level

abbrev pub joined_nesting : JoinedTree → ℕ
joined_nesting = fold-JoinedTree ℕ ℕ ℕ ℕ ℕ ℕ ℕ core_level source_level step_level joined_level query_level select_level union_level

abbrev pub step_nesting : JoinStep → ℕ
step_nesting = fold-JoinStep ℕ ℕ ℕ ℕ ℕ ℕ ℕ core_level source_level step_level joined_level query_level select_level union_level

abbrev pub source_nesting : SourceTree → ℕ
source_nesting = fold-SourceTree ℕ ℕ ℕ ℕ ℕ ℕ ℕ core_level source_level step_level joined_level query_level select_level union_level
