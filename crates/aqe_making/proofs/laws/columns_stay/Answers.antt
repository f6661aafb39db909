use Rattle.aqe_making.proofs.Columns.{columns_stay}
use Rattle.aqe_making.proofs.laws.columns_stay.Goals as goal

pub returns : goal.returns
returns c = columns_stay
