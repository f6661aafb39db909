use Rattle.aqe_logical.proofs.Agree.{agree}
use Rattle.aqe_logical.proofs.laws.answers_agree.Goals as goal

pub returns : goal.returns
returns c = agree
