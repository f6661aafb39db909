use Rattle.std.proofs.Common.{rules}
use Rattle.aqe_ranges.proofs.Placing.{placed_next}
use Rattle.aqe_ranges.proofs.writing.write_range.Goals as goal

pub rows-preserved : goal.rows-preserved
rows-preserved c =
    placed_next c.args.keys.now c.args.bounds.now c.args.n c.slice-row-items.result.now c.rows.row-index c.row-item.result c.rows.parts c.copy_by_range.new.parts
    c.requires.parts (search rules) c.row-item.is c.rows.invariant (search rules)
