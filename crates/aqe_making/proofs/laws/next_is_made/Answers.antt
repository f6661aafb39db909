use Rattle.aqe_making.proofs.Stepping.{next_made}
use Rattle.aqe_making.proofs.laws.next_is_made.Goals as goal

pub returns : goal.returns
returns c = next_made
