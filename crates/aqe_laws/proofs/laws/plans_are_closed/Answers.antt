use Rattle.aqe_laws.proofs.QueryTrees.{closed}
use Rattle.aqe_laws.proofs.laws.plans_are_closed.Goals as goal

pub returns : goal.returns
returns c = closed
