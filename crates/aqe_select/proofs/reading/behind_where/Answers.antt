use Rattle.std.proofs.Common.{List, [], subst}
use Rattle.aqe_rules.specs.Faults.{Says}
use Rattle.aqe_rules.specs.Selects.{with_aliases, grouping_keys}
use Rattle.aqe_rules.specs.Sources.{columns_of}
use Rattle.aqe_sources.specs.declared.scope.FromItem.{FromItem}
use Rattle.aqe_sources.specs.Seen.{items_seen}
use Rattle.aqe_select.proofs.ReadingSteps.{keys_there}
use Rattle.aqe_select.proofs.reading.behind_where.Goals as goal

pub returns-in-Ok : goal.returns-in-Ok
returns-in-Ok c =
    let s = c.args.shown.now in
    let list = c.args.clauses.now.list.now in
    let group = c.args.clauses.now.group.now in
    keys_there c.args.clauses.now c.args.is_grouped s c.requires c.grouping_keys.result
    (subst (λ (items : List FromItem). Says c.grouping_keys.result (grouping_keys s.has_from (items_seen items) (with_aliases (columns_of (items_seen items)) list []) list group))
    c.slice-items.ensures c.grouping_keys.ensures)
    c.in-Ok.keys c.over_keys.result c.in-Ok.is c.over_keys.ensures
