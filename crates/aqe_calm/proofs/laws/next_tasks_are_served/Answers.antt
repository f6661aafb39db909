use Rattle.aqe_calm.proofs.RestRuns.{next_served}
use Rattle.aqe_calm.proofs.laws.next_tasks_are_served.Goals as goal

pub returns : goal.returns
returns c = next_served
