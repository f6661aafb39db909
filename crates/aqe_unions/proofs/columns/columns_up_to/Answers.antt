use Rattle.std.proofs.Common.{rules}
use Rattle.aqe_unions.proofs.ColumnSteps.{column_step}
use Rattle.aqe_unions.proofs.columns.columns_up_to.Goals as goal

pub fields-preserved : goal.fields-preserved
fields-preserved c =
    column_step c.args.fields.now c.fields.index c.fields.columns c.push.new.self c.in_ok-column.column (search rules) c.fields.invariant (search rules) (search rules)
