use Rattle.aqe_columns.proofs.Together.{together}
use Rattle.aqe_columns.proofs.laws.parts_hold_together.Goals as goal

pub returns : goal.returns
returns c = together
