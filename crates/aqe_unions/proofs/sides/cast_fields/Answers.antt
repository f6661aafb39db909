use Rattle.std.proofs.Common.{arith}
use Rattle.std.proofs.lemmas.List.{drop_all}
use Rattle.aqe_rules.specs.Unions.{cast_fields}
use Rattle.aqe_unions.proofs.SideSteps.{fields_all}
use Rattle.aqe_unions.proofs.sides.cast_fields.Goals as goal

pub returns : goal.returns
returns c =
    let kinds = c.args.kinds.now in
    let fields = c.args.fields.now in
    fields_all c.columns.schema (cast_fields kinds fields) c.columns.others.now _ (drop_all c.columns.field-index fields (omega arith)) c.columns.invariant
