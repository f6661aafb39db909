use Rattle.aqe_laws.proofs.QueryTrees.{bounded}
use Rattle.aqe_laws.proofs.laws.plans_are_bounded.Goals as goal

pub returns : goal.returns
returns c = bounded
