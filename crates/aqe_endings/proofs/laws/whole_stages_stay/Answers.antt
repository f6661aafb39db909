use Rattle.aqe_endings.proofs.Endings.{wholes_stay}
use Rattle.aqe_endings.proofs.laws.whole_stages_stay.Goals as goal

pub returns : goal.returns
returns c = wholes_stay
