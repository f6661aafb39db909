-- The nesting of a query, and of a statement.
--
-- Each SELECT, UNION, join and pair of parentheses counts one; a comma in FROM is a join; a table, `*`, and the ORDER BY,
-- LIMIT and OFFSET of a query count nothing by themselves. UNIONs and joins group to the left.
use Rattle.std.specs.Prelude.{ℕ, suc, max, List, [], ◌∷◌, map, Option, Some, None}
use Rattle.aqe_trees.specs.declared.expression.OrTree.{OrTree}
use Rattle.aqe_trees.specs.declared.query.ItemTree.{ItemTree}
use Rattle.aqe_trees.specs.declared.query.ItemTree.TheVariants as item
use Rattle.aqe_trees.specs.declared.query.SortTree.{SortTree}
use Rattle.aqe_trees.specs.declared.query.QueryTree.{QueryTree, QueryTree-F, fold-QueryTree}
use Rattle.aqe_trees.specs.declared.query.UnionTree.{UnionTree-F}
use Rattle.aqe_trees.specs.declared.query.CoreTree.{CoreTree-F}
use Rattle.aqe_trees.specs.declared.query.SelectTree.{SelectTree-F}
use Rattle.aqe_trees.specs.declared.query.JoinedTree.{JoinedTree-F}
use Rattle.aqe_trees.specs.declared.query.JoinStep.{JoinStep-F}
use Rattle.aqe_trees.specs.declared.query.SourceTree.{SourceTree-F}
use Rattle.aqe_trees.specs.declared.statement.Stmt.{Stmt}
use Rattle.aqe_trees.specs.declared.statement.Stmt.TheVariants as stmt
use Rattle.aqe_script.specs.Nesting.{deepest, chain_depth, or_nesting}

-- of an item: `*` has none
abbrev pub item_nesting : ItemTree → ℕ
item_nesting (item.One value alias) = or_nesting value
item_nesting _ = 0

-- of a clause that may be missing
abbrev pub clause_nesting : Option OrTree → ℕ
clause_nesting None = 0
clause_nesting (Some value) = or_nesting value

-- of a key of ORDER BY
abbrev pub sort_nesting : SortTree → ℕ
sort_nesting key = or_nesting key.value

-- of FROM: the commas join its items from left to right
abbrev pub from_depth : List ℕ → ℕ
from_depth [] = 0
from_depth (first ∷ rest) = chain_depth first rest

-- What each level of a query makes of the nestings of its parts.

-- ORDER BY lies beside the body
abbrev pub query_level : QueryTree-F ℕ ℕ ℕ ℕ ℕ ℕ ℕ → ℕ
query_level l = max l.body (deepest (map sort_nesting l.order))

-- each UNION lies above the cores before it and the one behind it
abbrev pub union_level : UnionTree-F ℕ ℕ ℕ ℕ ℕ ℕ ℕ → ℕ
union_level l = chain_depth l.first (map (λ next. next.1) l.rest)

-- a pair of parentheses lies above its query, a SELECT above its parts
abbrev pub core_level : CoreTree-F ℕ ℕ ℕ ℕ ℕ ℕ ℕ → ℕ
core_level (CoreTree-F.«CoreTree::Paren» query) = suc query
core_level (CoreTree-F.Select select) = suc select

-- the items, FROM, WHERE, GROUP BY and HAVING lie beside each other
abbrev pub select_level : SelectTree-F ℕ ℕ ℕ ℕ ℕ ℕ ℕ → ℕ
select_level l =
    max (deepest (map item_nesting l.items)) (max (from_depth l.from)
    (max (clause_nesting l.filter) (max (deepest (map or_nesting l.group)) (clause_nesting l.having))))

-- each join lies above the sources before it and the one behind it
abbrev pub joined_level : JoinedTree-F ℕ ℕ ℕ ℕ ℕ ℕ ℕ → ℕ
joined_level l = chain_depth l.first l.rest

-- what a join adds on its right: the source, and the condition
abbrev pub step_level : JoinStep-F ℕ ℕ ℕ ℕ ℕ ℕ ℕ → ℕ
step_level l = max l.source (clause_nesting l.on)

-- a table is not counted, a pair of parentheses lies above its query
abbrev pub source_level : SourceTree-F ℕ ℕ ℕ ℕ ℕ ℕ ℕ → ℕ
source_level (SourceTree-F.Table name alias) = 0
source_level (SourceTree-F.«SourceTree::Paren» query alias) = suc query

-- the nesting of a query: its levels, from the innermost outwards
abbrev pub query_nesting : QueryTree → ℕ
query_nesting = fold-QueryTree ℕ ℕ ℕ ℕ ℕ ℕ ℕ core_level source_level step_level joined_level query_level select_level union_level

-- the nesting of a statement: only queries nest
abbrev pub nesting : Stmt → ℕ
nesting (stmt.Query tree) = query_nesting tree
nesting _ = 0
