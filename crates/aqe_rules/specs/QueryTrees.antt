-- The forms of a query, read off its tree.
use Rattle.aqe_trees.specs.declared.query.QueryTree.{QueryTree, QueryTree-F, fold-QueryTree}
use Rattle.aqe_trees.specs.declared.query.UnionTree.{UnionTree, UnionTree-F, fold-UnionTree}
use Rattle.aqe_trees.specs.declared.query.CoreTree.{CoreTree, CoreTree-F, fold-CoreTree}
use Rattle.aqe_trees.specs.declared.query.SelectTree.{SelectTree, SelectTree-F, fold-SelectTree}
use Rattle.aqe_trees.specs.declared.query.JoinedTree.{JoinedTree, JoinedTree-F, fold-JoinedTree}
use Rattle.aqe_trees.specs.declared.query.JoinStep.{JoinStep, JoinStep-F, fold-JoinStep}
use Rattle.aqe_trees.specs.declared.query.SourceTree.{SourceTree, SourceTree-F, fold-SourceTree}
use Rattle.aqe_rules.specs.QueryForms.{QueryForms, Step}

module _ {Q U C J S : Type 0} (rule : QueryForms Q U C J S) where
  abbrev pub core_level : CoreTree-F C S (Step S) J Q C U → C
  core_level (CoreTree-F.«CoreTree::Paren» query) = rule.paren query
  core_level (CoreTree-F.Select select) = select

  abbrev pub source_level : SourceTree-F C S (Step S) J Q C U → S
  source_level (SourceTree-F.Table name alias) = rule.table name alias
  source_level (SourceTree-F.«SourceTree::Paren» query alias) = rule.subquery query alias

  abbrev pub step_level : JoinStep-F C S (Step S) J Q C U → Step S
  step_level l = record { kind = l.kind; source = l.source; on = l.on }

  abbrev pub joined_level : JoinedTree-F C S (Step S) J Q C U → J
  joined_level l = rule.joined l.first l.rest

  abbrev pub query_level : QueryTree-F C S (Step S) J Q C U → Q
  query_level l = rule.query l.body l.order l.limit l.offset

  abbrev pub select_level : SelectTree-F C S (Step S) J Q C U → C
  select_level l = rule.select l.distinct l.items l.from l.filter l.group l.having

  abbrev pub union_level : UnionTree-F C S (Step S) J Q C U → U
  union_level l = rule.union l.first l.rest

  -- what is made of a tree of each level
  abbrev pub made_of_core : CoreTree → C
  made_of_core = fold-CoreTree C S (Step S) J Q C U core_level source_level step_level joined_level query_level select_level union_level

  abbrev pub made_of_source : SourceTree → S
  made_of_source = fold-SourceTree C S (Step S) J Q C U core_level source_level step_level joined_level query_level select_level union_level

  abbrev pub made_of_step : JoinStep → Step S
  made_of_step = fold-JoinStep C S (Step S) J Q C U core_level source_level step_level joined_level query_level select_level union_level

  abbrev pub made_of_joined : JoinedTree → J
  made_of_joined = fold-JoinedTree C S (Step S) J Q C U core_level source_level step_level joined_level query_level select_level union_level

  abbrev pub made_of_select : SelectTree → C
  made_of_select = fold-SelectTree C S (Step S) J Q C U core_level source_level step_level joined_level query_level select_level union_level

  abbrev pub made_of_union : UnionTree → U
  made_of_union = fold-UnionTree C S (Step S) J Q C U core_level source_level step_level joined_level query_level select_level union_level

  -- what is made of a query
  abbrev pub made_of_query : QueryTree → Q
  made_of_query = fold-QueryTree C S (Step S) J Q C U core_level source_level step_level joined_level query_level select_level union_level
