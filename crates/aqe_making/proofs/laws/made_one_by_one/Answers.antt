use Rattle.aqe_making.proofs.Stepping.{one_by_one}
use Rattle.aqe_making.proofs.laws.made_one_by_one.Goals as goal

pub returns : goal.returns
returns c = one_by_one
