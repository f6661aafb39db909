use Rattle.aqe_type_laws.proofs.WalkTyped.{nodes_typed}
use Rattle.aqe_type_laws.proofs.laws.nodes_are_typed.Goals as goal

pub returns : goal.returns
returns c = nodes_typed
