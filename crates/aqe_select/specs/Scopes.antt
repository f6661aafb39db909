-- What may be used in a SELECT.
use Rattle.std.specs.Prelude.{◌≡◌, Bool, true, false, List, []}
use Rattle.aqe_trees.specs.declared.query.SortTree.{SortTree}
use Rattle.aqe_rules.specs.declared.names.Named.{Named}
use Rattle.aqe_rules.specs.Readings.{Call}
use Rattle.aqe_rules.specs.Selects.{with_aliases, calls_of}
use Rattle.aqe_rules.specs.Sources.{over, columns_of}
use Rattle.aqe_typing.specs.Calls.{calls_seen}
use Rattle.aqe_sources.specs.declared.scope.FromItem.{FromItem}
use Rattle.aqe_sources.specs.Seen.{items_seen}
use Rattle.aqe_outputs.specs.declared.outputs.Shown.{Shown}
use Rattle.aqe_select.specs.declared.clauses.Clauses.{Clauses}

-- the aggregate calls of the select list, HAVING and an ORDER BY over these columns; in a query that is not grouped there are none
abbrev pub calls_over : Bool → List Named → Clauses → List SortTree → List Call
calls_over true columns c sorts = calls_of (over columns) (with_aliases columns c.list.now []) c.list.now c.having.now sorts
calls_over false columns c sorts = []

-- what these items of FROM show to the clauses
pub record Shows (c : Clauses) (grouped : Bool) (all : List FromItem) (s : Shown) : Type 0 where
  pub has_from : s.has_from ≡ c.has_from
  pub items : s.items ≡ all
  pub columns : s.columns ≡ columns_of (items_seen all)
  pub calls : calls_seen s.calls ≡ calls_over grouped s.columns c c.sorts.now
