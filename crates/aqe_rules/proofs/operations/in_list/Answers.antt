use Rattle.std.proofs.Common.{rules}
use Rattle.aqe_rules.proofs.Comparing.{listed}
use Rattle.aqe_rules.proofs.operations.in_list.Goals as goal

pub returns-in_ok-expr-in-Some : goal.returns-in_ok-expr-in-Some
returns-in_ok-expr-in-Some c = listed c.args.a c.args.all.items c.in-Some.kind c.in_ok-value-in-Some.value c.in_ok-expr-in-Some.expr c.in_ok-value-in-Some.list (search rules) (search rules) (search rules) (search rules)
