use Rattle.aqe_fit_laws.proofs.PartsTogether.{sorts_over}
use Rattle.aqe_fit_laws.proofs.laws.sorts_over_a_place.Goals as goal

pub returns : goal.returns
returns c = sorts_over
