use Rattle.aqe_scheduler.proofs.Runs.{others_run_once}
use Rattle.aqe_scheduler.proofs.laws.others_run_once.Goals as goal

pub returns : goal.returns
returns c = others_run_once
