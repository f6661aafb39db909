use Rattle.std.proofs.Common.{rules}
use Rattle.aqe_ordered.proofs.PositionSteps.{column_there}
use Rattle.aqe_ordered.proofs.positions.at_position.Goals as goal

pub returns-in_ok-expr-in-Some : goal.returns-in_ok-expr-in-Some
returns-in_ok-expr-in-Some c =
    column_there c.args.negative c.args.n c.args.outputs.now c.column_at.result c.column_at.ensures c.in-Some.column c.in_ok-expr-in-Some.expr (search rules) (search rules)
