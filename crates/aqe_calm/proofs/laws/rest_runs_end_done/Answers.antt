use Rattle.aqe_calm.proofs.RestRuns.{end_done}
use Rattle.aqe_calm.proofs.laws.rest_runs_end_done.Goals as goal

pub returns : goal.returns
returns c = end_done
