use Rattle.aqe_journal.proofs.StagesRun.{stages_run}
use Rattle.aqe_journal.proofs.laws.stages_of_runs_run.Goals as goal

pub returns : goal.returns
returns c = stages_run
