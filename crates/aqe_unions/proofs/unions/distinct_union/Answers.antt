use Rattle.std.proofs.Common.{rules}
use Rattle.aqe_unions.proofs.UnionSteps.{rows_once}
use Rattle.aqe_unions.proofs.unions.distinct_union.Goals as goal

pub returns : goal.returns
returns c =
    rows_once c.args.left c.args.right c.in_ok-fields.plan c.in_ok-fields.fields c.distinct_rows.result (search rules) (search rules) c.distinct_rows.ensures
