use Rattle.std.proofs.Common.{rules}
use Rattle.aqe_exchange.proofs.Placing.{placed_next}
use Rattle.aqe_exchange.proofs.write.write_hash.Goals as goal

pub rows-preserved : goal.rows-preserved
rows-preserved c =
    placed_next c.args.n c.args.keys.now c.slice-row-items.result.now c.rows.row-index c.row-item.result c.rows.parts c.copy_by_hash.new.parts
    c.requires.parts (search rules) c.row-item.is c.rows.invariant (search rules)
