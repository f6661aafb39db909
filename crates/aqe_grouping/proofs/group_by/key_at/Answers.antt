use Rattle.aqe_rules.specs.Outcomes.{upon}
use Rattle.aqe_rules.specs.Selects.{at_position, spread_value}
use Rattle.aqe_rules.specs.Sources.{over}
use Rattle.aqe_sources.specs.Seen.{items_seen}
use Rattle.aqe_grouping.proofs.PositionPlaces.{list_there}
use Rattle.aqe_grouping.proofs.group_by.key_at.Goals as goal

pub returns-in-Ok : goal.returns-in-Ok
returns-in-Ok c =
    let shown = c.args.shown.now in
    list_there shown.has_from (items_seen shown.items.now) shown.list.now shown.columns.now c.list_spread.result
    (λ all. upon (at_position c.args.negative c.args.n all) (spread_value (over shown.columns.now))) c.requires c.list_spread.ensures c.in-Ok.field-0 c.value_in_list.result c.in-Ok.is c.value_in_list.ensures
