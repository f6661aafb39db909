use Rattle.aqe_fit_laws.proofs.PartsTogether.{ends}
use Rattle.aqe_fit_laws.proofs.laws.unions_of_parts.Goals as goal

pub returns : goal.returns
returns c = ends
