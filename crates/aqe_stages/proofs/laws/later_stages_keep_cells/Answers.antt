use Rattle.aqe_stages.proofs.Later.{cells_stay}
use Rattle.aqe_stages.proofs.laws.later_stages_keep_cells.Goals as goal

pub returns : goal.returns
returns c = cells_stay
