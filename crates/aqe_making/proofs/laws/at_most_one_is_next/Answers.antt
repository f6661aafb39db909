use Rattle.aqe_making.proofs.Stepping.{one_next}
use Rattle.aqe_making.proofs.laws.at_most_one_is_next.Goals as goal

pub returns : goal.returns
returns c = one_next
