use Rattle.aqe_making.proofs.Stepping.{none_other}
use Rattle.aqe_making.proofs.laws.ready_has_no_other.Goals as goal

pub returns : goal.returns
returns c = none_other
