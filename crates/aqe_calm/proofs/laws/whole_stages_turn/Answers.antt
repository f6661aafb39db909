use Rattle.aqe_calm.proofs.RestRuns.{whole_turn}
use Rattle.aqe_calm.proofs.laws.whole_stages_turn.Goals as goal

pub returns : goal.returns
returns c = whole_turn
