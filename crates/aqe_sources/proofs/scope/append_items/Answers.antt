use Rattle.std.proofs.Common.{rules}
use Rattle.aqe_sources.proofs.ColumnLists.{columns-step}
use Rattle.aqe_sources.proofs.scope.append_items.Goals as goal

pub items-preserved : goal.items-preserved
items-preserved c =
    columns-step c.args.columns.now c.args.items.now c.items.item-index c.item-item.result c.items.columns c.append_columns.new.columns
    (search rules) c.item-item.is c.items.invariant (search rules)
