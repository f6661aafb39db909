use Rattle.aqe_tables.proofs.CauseFacts.{one_table}
use Rattle.aqe_tables.proofs.laws.files_make_one_table.Goals as goal

pub returns : goal.returns
returns c = one_table
