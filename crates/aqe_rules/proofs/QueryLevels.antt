-- What is made of a query's tree of each level, from what is made of its parts.
use Rattle.std.proofs.Common.{ℕ, ◌≡◌, List, map, ap, sym, ◌∙◌, Bool, Option}
use Rattle.aqe_base.specs.declared.join_kind.JoinKind.{JoinKind}
use Rattle.aqe_trees.specs.declared.expression.OrTree.{OrTree}
use Rattle.aqe_trees.specs.declared.query.ItemTree.{ItemTree}
use Rattle.aqe_trees.specs.declared.query.SortTree.{SortTree}
use Rattle.aqe_trees.specs.declared.query.QueryTree.{QueryTree, fold-roll-QueryTree}
use Rattle.aqe_trees.specs.declared.query.UnionTree.{UnionTree, fold-roll-UnionTree}
use Rattle.aqe_trees.specs.declared.query.CoreTree.{CoreTree, CoreTree-F, fold-roll-CoreTree}
use Rattle.aqe_trees.specs.declared.query.CoreTree.TheVariants as core
use Rattle.aqe_trees.specs.declared.query.CoreTree.TheVariants.{rolls-Paren, rolls-Select}
use Rattle.aqe_trees.specs.declared.query.SelectTree.{SelectTree, fold-roll-SelectTree}
use Rattle.aqe_trees.specs.declared.query.JoinedTree.{JoinedTree, fold-roll-JoinedTree}
use Rattle.aqe_trees.specs.declared.query.JoinStep.{JoinStep, fold-roll-JoinStep}
use Rattle.aqe_trees.specs.declared.query.SourceTree.{SourceTree, SourceTree-F, fold-roll-SourceTree}
use Rattle.aqe_trees.specs.declared.query.SourceTree.TheVariants as source
use Rattle.aqe_trees.specs.declared.query.SourceTree.TheVariants.{rolls-Table, rolls-Paren as rolls-Query}
use Rattle.aqe_trees.specs.Shapes.{query_tree, union_tree, select_tree, joined_tree, join_step}
use Rattle.aqe_rules.specs.QueryForms.{QueryForms, Step}
use Rattle.aqe_rules.specs.QueryTrees.{core_level, source_level, step_level, joined_level, query_level, select_level, union_level, made_of_query, made_of_union, made_of_core, made_of_select, made_of_joined, made_of_step, made_of_source}

module _ {Q U C J S : Type 0} (rule : QueryForms Q U C J S) where
  pub of_query : (body : UnionTree) (order : List SortTree) (limit offset : Option ℕ) → made_of_query rule (query_tree body order limit offset) ≡ rule.query (made_of_union rule body) order limit offset
  of_query body order limit offset = fold-roll-QueryTree C S (Step S) J Q C U (core_level rule) (source_level rule) (step_level rule) (joined_level rule) (query_level rule) (select_level rule) (union_level rule) (record { body = body; order = order; limit = limit; offset = offset })

  pub of_union : (first : CoreTree) (rest : List (Bool × CoreTree)) → made_of_union rule (union_tree first rest) ≡ rule.union (made_of_core rule first) (map (λ next. (next.0, made_of_core rule next.1)) rest)
  of_union first rest = fold-roll-UnionTree C S (Step S) J Q C U (core_level rule) (source_level rule) (step_level rule) (joined_level rule) (query_level rule) (select_level rule) (union_level rule) (record { first = first; rest = rest })

  pub of_select : (distinct : Bool) (items : List ItemTree) (from : List JoinedTree) (filter : Option OrTree) (group : List OrTree) (having : Option OrTree) → made_of_select rule (select_tree distinct items from filter group having) ≡ rule.select distinct items (map (made_of_joined rule) from) filter group having
  of_select distinct items from filter group having = fold-roll-SelectTree C S (Step S) J Q C U (core_level rule) (source_level rule) (step_level rule) (joined_level rule) (query_level rule) (select_level rule) (union_level rule) (record { distinct = distinct; items = items; from = from; filter = filter; group = group; having = having })

  pub of_joined : (first : SourceTree) (rest : List JoinStep) → made_of_joined rule (joined_tree first rest) ≡ rule.joined (made_of_source rule first) (map (made_of_step rule) rest)
  of_joined first rest = fold-roll-JoinedTree C S (Step S) J Q C U (core_level rule) (source_level rule) (step_level rule) (joined_level rule) (query_level rule) (select_level rule) (union_level rule) (record { first = first; rest = rest })

  pub of_step : (kind : JoinKind) (source : SourceTree) (on : Option OrTree) → made_of_step rule (join_step kind source on) ≡ record { kind = kind; source = made_of_source rule source; on = on }
  of_step kind source on = fold-roll-JoinStep C S (Step S) J Q C U (core_level rule) (source_level rule) (step_level rule) (joined_level rule) (query_level rule) (select_level rule) (union_level rule) (record { kind = kind; source = source; on = on })

  pub of_core_paren : (query : QueryTree) → made_of_core rule (core.Paren query) ≡ rule.paren (made_of_query rule query)
  of_core_paren query = ap (made_of_core rule) (sym (rolls-Paren query)) ∙ fold-roll-CoreTree C S (Step S) J Q C U (core_level rule) (source_level rule) (step_level rule) (joined_level rule) (query_level rule) (select_level rule) (union_level rule) (CoreTree-F.«CoreTree::Paren» query)

  pub of_core_select : (select : SelectTree) → made_of_core rule (core.Select select) ≡ made_of_select rule select
  of_core_select select = ap (made_of_core rule) (sym (rolls-Select select)) ∙ fold-roll-CoreTree C S (Step S) J Q C U (core_level rule) (source_level rule) (step_level rule) (joined_level rule) (query_level rule) (select_level rule) (union_level rule) (CoreTree-F.Select select)

  pub of_source_table : (name : List ℕ) (alias : Option (List ℕ)) → made_of_source rule (source.Table name alias) ≡ rule.table name alias
  of_source_table name alias = ap (made_of_source rule) (sym (rolls-Table name alias)) ∙ fold-roll-SourceTree C S (Step S) J Q C U (core_level rule) (source_level rule) (step_level rule) (joined_level rule) (query_level rule) (select_level rule) (union_level rule) (SourceTree-F.Table name alias)

  pub of_source_paren : (query : QueryTree) (alias : Option (List ℕ)) → made_of_source rule (source.Paren query alias) ≡ rule.subquery (made_of_query rule query) alias
  of_source_paren query alias = ap (made_of_source rule) (sym (rolls-Query query alias)) ∙ fold-roll-SourceTree C S (Step S) J Q C U (core_level rule) (source_level rule) (step_level rule) (joined_level rule) (query_level rule) (select_level rule) (union_level rule) (SourceTree-F.«SourceTree::Paren» query alias)
