use Rattle.aqe_fit_laws.proofs.Within.{within}
use Rattle.aqe_fit_laws.proofs.laws.nodes_within_parts_keep_places.Goals as goal

pub returns : goal.returns
returns c = within
