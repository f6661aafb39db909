use Rattle.aqe_calm.proofs.RestRuns.{results_rows}
use Rattle.aqe_calm.proofs.laws.results_hold_the_rows.Goals as goal

pub returns : goal.returns
returns c = results_rows
