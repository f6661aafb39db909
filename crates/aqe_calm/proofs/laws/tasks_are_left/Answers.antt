use Rattle.aqe_calm.proofs.Progress.{tasks_left}
use Rattle.aqe_calm.proofs.laws.tasks_are_left.Goals as goal

pub returns : goal.returns
returns c = tasks_left
