use Rattle.std.proofs.Common.{rules, ◌-◌, length, refl, arith}
use Rattle.std.proofs.lemmas.Option.{slice_get_read}
use Rattle.aqe_grouping.proofs.FormSteps.{not_grouped, call_there}
use Rattle.aqe_grouping.proofs.PartSteps.{given}
use Rattle.aqe_grouping.proofs.groups.call_column.Goals as goal

pub returns-then-place-columns : goal.returns-then-place-columns
returns-then-place-columns c =
    let cs = c.args.groups.now.columns.now in
    let here = slice_get_read cs _ c.args.place c.index-columns-place.result refl (omega arith) c.index-columns-place.is in
    rw (not_grouped (length c.args.groups.now.keys.now) cs c.args.place c.index-columns-place.result here) (search rules)

pub returns : goal.returns
returns c =
    let cs = c.args.groups.now.columns.now in
    let call = c.args.place - length cs in
    given c.behind_keys.result _ _ (call_there (length c.args.groups.now.keys.now) cs c.args.place call (omega arith)) c.behind_keys.ensures
