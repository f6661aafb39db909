use Rattle.std.proofs.Common.{rules}
use Rattle.aqe_rules.proofs.CaseSteps.{made_case}
use Rattle.aqe_rules.proofs.cases.case_of.Goals as goal

pub returns-in_ok-expr-in-Some : goal.returns-in_ok-expr-in-Some
returns-in_ok-expr-in-Some c = made_case c.args.arms.items c.args.otherwise c.in-Some.kind c.in_ok-pairs-in-Some.pairs c.in_ok-pairs-in-Some.otherwise c.in_ok-expr-in-Some.expr (search rules) (search rules) (search rules) (search rules) (search rules)
