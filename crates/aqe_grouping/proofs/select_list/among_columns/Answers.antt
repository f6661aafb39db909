use Rattle.std.proofs.Common.{rules}
use Rattle.aqe_grouping.specs.Places.{shown_value}
use Rattle.aqe_grouping.proofs.PlaceSteps.{passed, landed, fallen}
use Rattle.aqe_grouping.proofs.select_list.among_columns.Goals as goal

pub returns-in_default-at_column : goal.returns-in_default-at_column
returns-in_default-at_column c =
    landed c.args.columns.now (shown_value c.args.item.now) c.columns.rest.now c.in-Some.column.now c.in-Some.more.now c.columns.left c.at_column.result c.args.columns.now c.args.place (search rules)
    c.in_default-at_column.not-Behind (c.at_column.ensures c.args.columns.now) c.columns.invariant

pub columns-preserved : goal.columns-preserved
columns-preserved c =
    passed c.args.columns.now (shown_value c.args.item.now) c.columns.rest.now c.in-Some.column.now c.in-Some.more.now c.columns.left c.in-Behind.less c.at_column.result c.args.columns.now c.args.place
    (search rules) c.in-Behind.is (c.at_column.ensures c.args.columns.now) c.columns.invariant

pub returns : goal.returns
returns c = fallen c.args.columns.now (shown_value c.args.item.now) c.columns.rest.now c.columns.left c.args.columns.now c.args.place c.in_default.ensures.cases c.columns.invariant
