use Rattle.aqe_local_read.proofs.Runs.{even}
use Rattle.aqe_local_read.proofs.laws.runs_are_even.Goals as goal

pub returns : goal.returns
returns c = even
