use Rattle.aqe_join_switch.proofs.Built.{built}
use Rattle.aqe_join_switch.proofs.laws.chosen_sides_may_be_built.Goals as goal

pub returns : goal.returns
returns c = built
