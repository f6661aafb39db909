use Rattle.std.proofs.Common.{rules, arith, ◌<◌}
use Rattle.aqe_rules.specs.Limits.{operator_count}
use Rattle.aqe_rules.proofs.OperatorSteps.{count-join, count-union}
use Rattle.aqe_rules.proofs.limits.+room_behind.Goals as goal

pub returns-in-None : goal.returns-in-None
returns-in-None t c =
    let full : c.args.room < operator_count c.in-Join.left = search rules in
    omega (arith, full, count-join c.args.plan.now c.in-Join.kind c.in-Join.cond c.in-Join.left c.in-Join.right c.in-Join.is)

pub returns-in-None-room_behind-2 : goal.returns-in-None-room_behind-2
returns-in-None-room_behind-2 t c =
    let full : c.args.room < operator_count c.in-Union.left = search rules in
    omega (arith, full, count-union c.args.plan.now c.in-Union.left c.in-Union.right c.in-Union.is)
