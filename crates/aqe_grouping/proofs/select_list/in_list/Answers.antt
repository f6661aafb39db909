use Rattle.std.proofs.Common.{rules}
use Rattle.aqe_grouping.specs.Places.{item_values}
use Rattle.aqe_grouping.proofs.PlaceSteps.{passed, landed, fallen}
use Rattle.aqe_grouping.proofs.select_list.in_list.Goals as goal

pub returns-in_default-at_item : goal.returns-in_default-at_item
returns-in_default-at_item c =
    landed c.args.columns.now (item_values c.args.columns.now) c.items.rest.now c.in-Some.item.now c.in-Some.more.now c.items.left c.at_item.result c.args.list.now c.args.place (search rules)
    c.in_default-at_item.not-Behind c.at_item.ensures c.items.invariant

pub items-preserved : goal.items-preserved
items-preserved c =
    passed c.args.columns.now (item_values c.args.columns.now) c.items.rest.now c.in-Some.item.now c.in-Some.more.now c.items.left c.in-Behind.less c.at_item.result c.args.list.now c.args.place
    (search rules) c.in-Behind.is c.at_item.ensures c.items.invariant

pub returns : goal.returns
returns c = fallen c.args.columns.now (item_values c.args.columns.now) c.items.rest.now c.items.left c.args.list.now c.args.place c.in_default.ensures.cases c.items.invariant
