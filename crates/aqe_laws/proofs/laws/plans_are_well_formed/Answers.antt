use Rattle.aqe_laws.proofs.QueryTrees.{well_formed}
use Rattle.aqe_laws.proofs.laws.plans_are_well_formed.Goals as goal

pub returns : goal.returns
returns c = well_formed
