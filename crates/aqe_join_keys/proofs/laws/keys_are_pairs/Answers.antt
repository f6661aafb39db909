use Rattle.aqe_join_keys.proofs.InPairs.{are_pairs}
use Rattle.aqe_join_keys.proofs.laws.keys_are_pairs.Goals as goal

pub returns : goal.returns
returns c = are_pairs
