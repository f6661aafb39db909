use Rattle.aqe_columns.proofs.Read.{as_data}
use Rattle.aqe_columns.proofs.laws.columns_below_as_data.Goals as goal

pub returns : goal.returns
returns c = as_data
