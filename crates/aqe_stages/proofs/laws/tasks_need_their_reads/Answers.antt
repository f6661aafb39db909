use Rattle.aqe_stages.proofs.Needed.{task_alike}
use Rattle.aqe_stages.proofs.laws.tasks_need_their_reads.Goals as goal

pub returns : goal.returns
returns c = task_alike
