use Rattle.std.proofs.Common.{arith}
use Rattle.std.proofs.lemmas.List.{drop_all}
use Rattle.aqe_rules.specs.Unions.{has_kinds}
use Rattle.aqe_unions.proofs.KindSteps.{no_columns_left}
use Rattle.aqe_unions.proofs.kinds.has_kinds.Goals as goal

pub returns : goal.returns
returns c =
    let kinds = c.args.kinds.now in
    let fields = c.args.fields.now in
    no_columns_left _ c.columns.others.now (has_kinds kinds fields) (drop_all c.columns.field-index fields (omega arith)) c.columns.invariant
