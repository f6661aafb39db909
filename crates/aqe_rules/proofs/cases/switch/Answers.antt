use Rattle.std.proofs.Common.{rules}
use Rattle.aqe_rules.proofs.CaseSteps.{made_switch}
use Rattle.aqe_rules.proofs.cases.switch.Goals as goal

pub returns-in_ok-expr-in-Some-common_of_gives : goal.returns-in_ok-expr-in-Some-common_of_gives
returns-in_ok-expr-in-Some-common_of_gives c = made_switch c.args.a c.args.arms.items c.args.otherwise c.in-Some.tested c.in-Some-common_of_gives.kind c.in_ok-operand-in-Some-common_of_gives.operand c.in_ok-operand-in-Some-common_of_gives.pairs c.in_ok-operand-in-Some-common_of_gives.otherwise c.in_ok-expr-in-Some-common_of_gives.expr (search rules) (search rules) (search rules) (search rules) (search rules) (search rules)
