use Rattle.aqe_fit_laws.proofs.PartsTogether.{limits_are}
use Rattle.aqe_fit_laws.proofs.laws.limits_of_parts_are_the_limit.Goals as goal

pub returns : goal.returns
returns c = limits_are
