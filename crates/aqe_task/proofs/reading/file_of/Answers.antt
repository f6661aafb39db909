use Rattle.std.proofs.Common.{◌∙◌}
use Rattle.aqe_estimates.proofs.Files.{file_at}
use Rattle.aqe_task.proofs.FileFacts.{has_file}
use Rattle.aqe_task.proofs.reading.file_of.Goals as goal

pub returns : goal.returns
returns c =
    c.slice.ensures ∙ file_at c.args.tables.now c.args.table c.args.file c.rows.result.now
    (has_file c.args.tables.now c.args.table c.args.file c.requires) c.rows.ensures
