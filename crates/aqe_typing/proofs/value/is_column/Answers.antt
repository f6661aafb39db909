use Rattle.std.proofs.Common.{◌∙◌}
use Rattle.aqe_typing.proofs.ColumnsAlone.{is_column_at_all}
use Rattle.aqe_typing.proofs.value.is_column.Goals as goal

pub returns : goal.returns
returns c = c.or.ensures ∙ is_column_at_all c.args.tree.now
