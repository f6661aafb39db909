use Rattle.aqe_columns.proofs.Read.{read_their_columns}
use Rattle.aqe_columns.proofs.laws.values_read_their_columns.Goals as goal

pub returns : goal.returns
returns c = read_their_columns
