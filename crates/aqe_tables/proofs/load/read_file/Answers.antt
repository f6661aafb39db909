use Rattle.aqe_records.specs.FileRows.{data_records, file_records}
use Rattle.aqe_tables.proofs.LoadFacts.{rows_wide}
use Rattle.aqe_tables.proofs.load.read_file.Goals as goal

pub returns-clause-wide : goal.returns-clause-wide
returns-clause-wide g c =
    rw c.in_ok-rows.ensures.rows
    (rows_wide c.args.table.now.form.schema
    (data_records c.args.table.now.form.header (file_records c.args.table.now.form.separator c.slice.result.now)))
