use Rattle.aqe_join_laws.proofs.Sides.{whole_right}
use Rattle.aqe_join_laws.proofs.laws.joins_with_a_whole_right.Goals as goal

pub returns : goal.returns
returns c = whole_right
