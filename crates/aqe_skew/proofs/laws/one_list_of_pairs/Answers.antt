use Rattle.aqe_skew.proofs.OnePairing.{one}
use Rattle.aqe_skew.proofs.laws.one_list_of_pairs.Goals as goal

pub returns : goal.returns
returns c = one
