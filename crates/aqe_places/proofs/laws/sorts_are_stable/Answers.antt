use Rattle.aqe_places.proofs.Sorted.{stable}
use Rattle.aqe_places.proofs.laws.sorts_are_stable.Goals as goal

pub returns : goal.returns
returns c = stable
