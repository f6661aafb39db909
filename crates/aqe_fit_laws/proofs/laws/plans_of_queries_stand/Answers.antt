use Rattle.aqe_fit_laws.proofs.QueriesStand.{queries_stand}
use Rattle.aqe_fit_laws.proofs.laws.plans_of_queries_stand.Goals as goal

pub returns : goal.returns
returns c = queries_stand
