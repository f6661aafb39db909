use Rattle.aqe_join_laws.proofs.Sides.{sides_are_the_join}
use Rattle.aqe_join_laws.proofs.laws.joined_sides_are_the_join.Goals as goal

pub returns : goal.returns
returns c = sides_are_the_join
