use Rattle.std.proofs.Common.{◌∙◌, sym, arith}
use Rattle.aqe_task.specs.Pieces.{rows_in}
use Rattle.aqe_task.proofs.Widths.{no_wide_items}
use Rattle.aqe_task.proofs.steps.projected.Goals as goal

pub returns-then-len-gt-ROW_LIMIT : goal.returns-then-len-gt-ROW_LIMIT
returns-then-len-gt-ROW_LIMIT c =
    let long = c.if-len-gt-ROW_LIMIT.true in
    let is = c.len.ensures in
    c.new.ensures ∙ sym (no_wide_items c.args.items.now (rows_in c.args.rows) c.requires (omega (arith, long, is)))
