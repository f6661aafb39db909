use Rattle.aqe_type_laws.proofs.WalkTyped.{plans_typed}
use Rattle.aqe_type_laws.proofs.laws.plans_are_typed.Goals as goal

pub returns : goal.returns
returns c = plans_typed
