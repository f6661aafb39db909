use Rattle.aqe_fit_laws.proofs.PartsTogether.{one_part_limited}
use Rattle.aqe_fit_laws.proofs.laws.limits_of_one_part.Goals as goal

pub returns : goal.returns
returns c = one_part_limited
