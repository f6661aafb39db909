use Rattle.aqe_making.proofs.Stepping.{queries_one_by_one}
use Rattle.aqe_making.proofs.laws.queries_made_one_by_one.Goals as goal

pub returns : goal.returns
returns c = queries_one_by_one
