-- The nesting of the chains of a query, from its parts.
use Rattle.std.proofs.Common.{ℕ, ◌≡◌, List, [], ◌∷◌, map, ap, ◌∙◌, Bool, refl, suc, sym, max, Option}
use Rattle.aqe_trees.specs.declared.query.UnionTree.{UnionTree, fold-roll-UnionTree}
use Rattle.aqe_trees.specs.declared.query.CoreTree.{CoreTree, CoreTree-F, fold-roll-CoreTree}
use Rattle.aqe_trees.specs.declared.query.CoreTree.TheVariants as core
use Rattle.aqe_trees.specs.declared.query.CoreTree.TheVariants.{rolls-Paren, rolls-Select}
use Rattle.aqe_trees.specs.declared.query.QueryTree.{QueryTree, fold-roll-QueryTree}
use Rattle.aqe_trees.specs.declared.query.SelectTree.{SelectTree}
use Rattle.aqe_trees.specs.declared.query.SortTree.{SortTree}
use Rattle.aqe_trees.specs.declared.query.JoinedTree.{fold-roll-JoinedTree}
use Rattle.aqe_trees.specs.declared.query.JoinStep.{JoinStep}
use Rattle.aqe_trees.specs.declared.query.SourceTree.{SourceTree}
use Rattle.aqe_trees.specs.Shapes.{union_tree, joined_tree, query_tree}
use Rattle.aqe_script.specs.Nesting.{chain_depth, deepest}
use Rattle.aqe_script.specs.QueryNesting.{core_level, source_level, step_level, joined_level, query_level, select_level, union_level, query_nesting, sort_nesting}
use Rattle.aqe_script.specs.QueryLevels.{core_nesting, source_nesting, step_nesting, joined_nesting, union_nesting, select_nesting}

pub of_joined : (first : SourceTree) (rest : List JoinStep) → joined_nesting (joined_tree first rest) ≡ chain_depth (source_nesting first) (map step_nesting rest)
of_joined first rest = fold-roll-JoinedTree ℕ ℕ ℕ ℕ ℕ ℕ ℕ core_level source_level step_level joined_level query_level select_level union_level (record { first = first; rest = rest })

seconds : (rest : List (Bool × CoreTree)) → map (λ (next : Bool × ℕ). next.1) (map (λ (next : Bool × CoreTree). (next.0, core_nesting next.1)) rest) ≡ map (λ (next : Bool × CoreTree). core_nesting next.1) rest
seconds [] = refl
seconds (next ∷ rest) = ap (λ xs. core_nesting next.1 ∷ xs) (seconds rest)

pub of_union : (first : CoreTree) (rest : List (Bool × CoreTree)) → union_nesting (union_tree first rest) ≡ chain_depth (core_nesting first) (map (λ (next : Bool × CoreTree). core_nesting next.1) rest)
unfolding union_nesting core_nesting
of_union first rest = fold-roll-UnionTree ℕ ℕ ℕ ℕ ℕ ℕ ℕ core_level source_level step_level joined_level query_level select_level union_level (record { first = first; rest = rest }) ∙ ap (chain_depth (core_nesting first)) (seconds rest)

pub of_core_paren : (query : QueryTree) → core_nesting (core.Paren query) ≡ suc (query_nesting query)
unfolding core_nesting
of_core_paren query = ap core_nesting (sym (rolls-Paren query)) ∙ fold-roll-CoreTree ℕ ℕ ℕ ℕ ℕ ℕ ℕ core_level source_level step_level joined_level query_level select_level union_level (CoreTree-F.«CoreTree::Paren» query)

pub of_core_select : (select : SelectTree) → core_nesting (core.Select select) ≡ suc (select_nesting select)
unfolding core_nesting
of_core_select select = ap core_nesting (sym (rolls-Select select)) ∙ fold-roll-CoreTree ℕ ℕ ℕ ℕ ℕ ℕ ℕ core_level source_level step_level joined_level query_level select_level union_level (CoreTree-F.Select select)

pub of_query : (body : UnionTree) (order : List SortTree) (limit offset : Option ℕ) → query_nesting (query_tree body order limit offset) ≡ max (union_nesting body) (deepest (map sort_nesting order))
unfolding union_nesting
of_query body order limit offset = fold-roll-QueryTree ℕ ℕ ℕ ℕ ℕ ℕ ℕ core_level source_level step_level joined_level query_level select_level union_level (record { body = body; order = order; limit = limit; offset = offset })
