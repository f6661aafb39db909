use Rattle.aqe_join_keys.proofs.Meaning.{mean_the_condition}
use Rattle.aqe_join_keys.proofs.laws.keys_mean_the_condition.Goals as goal

pub returns : goal.returns
returns c = mean_the_condition
