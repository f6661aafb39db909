use Rattle.std.proofs.Common.{rules}
use Rattle.aqe_rules.specs.Unions.{cast_columns, cast_fields}
use Rattle.aqe_unions.proofs.SideSteps.{rows_cast}
use Rattle.aqe_unions.proofs.sides.cast_rows.Goals as goal

pub returns : goal.returns
returns c =
    let kinds = c.args.kinds.now in
    let fields = c.args.fields.now in
    rows_cast c.in_ok-items.items (cast_columns 0 kinds fields) c.in_ok-items.schema (cast_fields kinds fields) c.in_ok-items.plan c.args.plan c.project.result
    (search rules) (search rules) (search rules) c.project.ensures
