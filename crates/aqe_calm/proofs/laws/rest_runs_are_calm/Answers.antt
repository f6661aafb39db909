use Rattle.aqe_calm.proofs.RestRuns.{rest_runs_calm}
use Rattle.aqe_calm.proofs.laws.rest_runs_are_calm.Goals as goal

pub returns : goal.returns
returns c = rest_runs_calm
