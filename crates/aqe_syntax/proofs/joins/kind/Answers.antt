use Rattle.aqe_trees.specs.Queries.{join, inner, cross, semi, anti}
use Rattle.aqe_syntax.proofs.JoinKinds.{left_kind, right_kind, full_kind, no_kind}
use Rattle.aqe_syntax.proofs.joins.kind.Goals as goal

pub returns-in-Some : goal.returns-in-Some
returns-in-Some c = left_kind _ c.in-Some.ensures c.left_join.ensures

pub returns-in-Some-eat : goal.returns-in-Some-eat
returns-in-Some-eat c = right_kind _ c.in-Some-eat.ensures c.outer_join.ensures

pub returns-in-Some-eat-2 : goal.returns-in-Some-eat-2
returns-in-Some-eat-2 c = full_kind _ c.in-Some-eat-2.ensures c.outer_join-in-Some-eat-2.ensures

pub returns-in-Some-eat-3 : goal.returns-in-Some-eat-3
returns-in-Some-eat-3 c = rw c.in-Some-eat-3.ensures join

pub returns-in-Some-pair : goal.returns-in-Some-pair
returns-in-Some-pair c = rw c.in-Some-pair.ensures inner

pub returns-in-Some-pair-2 : goal.returns-in-Some-pair-2
returns-in-Some-pair-2 c = rw c.in-Some-pair-2.ensures cross

pub returns-in-Some-pair-3 : goal.returns-in-Some-pair-3
returns-in-Some-pair-3 c = rw c.in-Some-pair-3.ensures semi

pub returns-in-Some-pair-4 : goal.returns-in-Some-pair-4
returns-in-Some-pair-4 c = rw c.in-Some-pair-4.ensures anti

pub returns : goal.returns
returns c = λ a us d. no_kind c.in_default.ensures c.in_default-eat.ensures c.in_default-eat-2.ensures c.in_default-eat-3.ensures c.in_default-pair.ensures c.in_default-pair-2.ensures c.in_default-pair-3.ensures c.in_default-pair-4.ensures d
