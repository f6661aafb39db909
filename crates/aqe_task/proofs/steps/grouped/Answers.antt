use Rattle.std.proofs.Common.{◌∙◌, sym, arith}
use Rattle.aqe_task.specs.Pieces.{rows_in}
use Rattle.aqe_task.proofs.Widths.{no_wide_groups}
use Rattle.aqe_task.proofs.steps.grouped.Goals as goal

pub returns-then-not-has_room : goal.returns-then-not-has_room
returns-then-not-has_room c =
    let none = c.if-not-has_room.true in
    let room = c.has_room.ensures in
    let is = c.len.ensures in
    c.new.ensures ∙ sym (no_wide_groups c.args.keys.now c.args.calls.now (rows_in c.args.rows) c.requires (grind (arith, none, room, is)))
