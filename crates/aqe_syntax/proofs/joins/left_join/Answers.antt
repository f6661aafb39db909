use Rattle.aqe_trees.specs.Queries.{left_semi, left_anti}
use Rattle.aqe_syntax.proofs.JoinKinds.{left_outer_join}
use Rattle.aqe_syntax.proofs.joins.left_join.Goals as goal

pub returns-in-Some : goal.returns-in-Some
returns-in-Some c = rw c.in-Some.ensures left_semi

pub returns-in-Some-pair : goal.returns-in-Some-pair
returns-in-Some-pair c = rw c.in-Some-pair.ensures left_anti

pub returns : goal.returns
returns c = left_outer_join _ c.in_default.ensures c.in_default-pair.ensures c.outer_join.ensures
