use Rattle.aqe_join_laws.proofs.Sides.{whole_left}
use Rattle.aqe_join_laws.proofs.laws.joins_with_a_whole_left.Goals as goal

pub returns : goal.returns
returns c = whole_left
