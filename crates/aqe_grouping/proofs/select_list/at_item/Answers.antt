use Rattle.aqe_grouping.proofs.PlaceSteps.{expression_found}
use Rattle.aqe_grouping.proofs.select_list.at_item.Goals as goal

pub returns-in-One : goal.returns-in-One
returns-in-One c =
    expression_found c.args.columns.now c.args.item.now c.args.place c.at_expression.result c.in-One.value c.in-One.alias c.in-One.is (c.at_expression.ensures c.args.columns.now)
