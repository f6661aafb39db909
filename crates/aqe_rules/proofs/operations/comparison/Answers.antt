use Rattle.std.proofs.Common.{rules}
use Rattle.aqe_rules.proofs.Comparing.{compared}
use Rattle.aqe_rules.proofs.operations.comparison.Goals as goal

pub returns-in_ok-expr-in-Some : goal.returns-in_ok-expr-in-Some
returns-in_ok-expr-in-Some c = compared c.args.op c.args.a c.args.b c.in-Some.kind c.in_ok-left-in-Some.left c.in_ok-left-in-Some.right c.in_ok-expr-in-Some.expr (search rules) (search rules) (search rules) (search rules)
