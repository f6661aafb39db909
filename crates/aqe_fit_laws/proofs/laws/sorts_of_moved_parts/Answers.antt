use Rattle.aqe_fit_laws.proofs.PartsTogether.{sorts_moved}
use Rattle.aqe_fit_laws.proofs.laws.sorts_of_moved_parts.Goals as goal

pub returns : goal.returns
returns c = sorts_moved
