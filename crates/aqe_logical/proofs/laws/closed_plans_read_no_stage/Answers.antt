use Rattle.aqe_logical.proofs.Agree.{closed_alike}
use Rattle.aqe_logical.proofs.laws.closed_plans_read_no_stage.Goals as goal

pub returns : goal.returns
returns c = closed_alike
