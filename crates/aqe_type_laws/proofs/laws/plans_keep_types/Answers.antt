use Rattle.aqe_type_laws.proofs.WalkTyped.{plans_keep}
use Rattle.aqe_type_laws.proofs.laws.plans_keep_types.Goals as goal

pub returns : goal.returns
returns c = plans_keep
