use Rattle.aqe_stages.proofs.Counted.{counted}
use Rattle.aqe_stages.proofs.laws.parts_are_as_many_as_counted.Goals as goal

pub returns : goal.returns
returns c = counted
