use Rattle.aqe_laws.proofs.Same.{same_is_equal}
use Rattle.aqe_laws.proofs.laws.same_is_equal.Goals as goal

pub returns : goal.returns
returns c = same_is_equal
