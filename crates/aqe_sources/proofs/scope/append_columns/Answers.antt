use Rattle.std.proofs.Common.{rules}
use Rattle.aqe_sources.proofs.ColumnLists.{numbered-step}
use Rattle.aqe_sources.proofs.scope.append_columns.Goals as goal

pub fields-preserved : goal.fields-preserved
fields-preserved c =
    rw (c.in_ok-push.ensures)
    (numbered-step c.args.columns.now c.args.item.now.name c.slice-field-items.result.now c.fields.field-index c.field-item.result c.fields.columns c.in_ok-column.column
    (search rules) c.field-item.is c.fields.invariant (search rules))
