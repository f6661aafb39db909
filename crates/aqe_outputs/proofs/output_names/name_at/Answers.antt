use Rattle.std.proofs.Common.{rules, refl, arith}
use Rattle.std.proofs.lemmas.Option.{slice_get_read, slice_get_past}
use Rattle.aqe_outputs.proofs.NameSteps.{column-name, column-past}
use Rattle.aqe_outputs.proofs.output_names.name_at.Goals as goal

pub returns-then-place-columns : goal.returns-then-place-columns
returns-then-place-columns c =
    let cs = c.args.columns.now in
    let here = slice_get_read cs _ c.args.place c.index-columns-place.result refl (omega arith) c.index-columns-place.is in
    rw (column-name cs c.args.place c.index-columns-place.result here) (search rules)

pub returns : goal.returns
returns c =
    let cs = c.args.columns.now in
    rw (column-past cs c.args.place (slice_get_past cs c.args.place (omega arith))) (search rules)
