use Rattle.aqe_fitting.specs.Laws.{by_test}
use Rattle.aqe_fitting.proofs.Grows.{grows}
use Rattle.aqe_fitting.proofs.laws.planned_by_more_ways.Goals as goal

pub returns : goal.returns
returns c = λ ways more. grows (by_test ways) (by_test more)
