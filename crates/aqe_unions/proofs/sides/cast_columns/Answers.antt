use Rattle.std.proofs.Common.{arith, length}
use Rattle.std.proofs.lemmas.List.{drop_all}
use Rattle.aqe_rules.specs.Unions.{cast_columns}
use Rattle.aqe_unions.proofs.SideSteps.{columns_all}
use Rattle.aqe_unions.proofs.sides.cast_columns.Goals as goal

pub returns : goal.returns
returns c =
    let kinds = c.args.kinds.now in
    let fields = c.args.fields.now in
    columns_all c.columns.items (cast_columns 0 kinds fields) (length c.columns.items) c.columns.others.now _ (drop_all c.columns.field-index fields (omega arith)) c.columns.invariant
