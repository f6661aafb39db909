use Rattle.std.proofs.Common.{rules}
use Rattle.aqe_rules.proofs.Comparing.{found_between}
use Rattle.aqe_rules.proofs.operations.between.Goals as goal

pub returns-in_ok-expr-in-Some : goal.returns-in_ok-expr-in-Some
returns-in_ok-expr-in-Some c = found_between c.args.a c.args.low c.args.high c.in-Some.kind c.in_ok-a-in-Some.a c.in_ok-a-in-Some.low c.in_ok-a-in-Some.high c.in_ok-expr-in-Some.expr (search rules) (search rules) (search rules) (search rules) (search rules)
