use Rattle.std.proofs.Common.{rules}
use Rattle.aqe_ranges.proofs.Placing.{placed_more}
use Rattle.aqe_ranges.proofs.writing.spread_range.Goals as goal

pub rows-preserved : goal.rows-preserved
rows-preserved c =
    placed_more c.args.keys.now c.args.bounds.now c.args.n c.rows.yielded c.in-Some.row c.rows.parts c.add_by_range.new.parts
    c.requires.parts c.rows.invariant (search rules)
