use Rattle.std.proofs.Common.{rules, slice_index_or, drop}
use Rattle.aqe_operators.specs.Lent.{lent_rows}
use Rattle.aqe_operators.proofs.Narrowed.{narrow_more, drop_both}
use Rattle.aqe_operators.proofs.limiting.skip_lent.Goals as goal

pub pieces-preserved : goal.pieces-preserved
pieces-preserved c =
    narrow_more drop c.pieces.left c.behind.new.skip c.pieces.piece-items c.pieces.piece-index c.piece-item.result c.behind.result (drop c.args.skip (lent_rows c.args.pieces.items))
    (search rules)
    (drop_both c.pieces.left c.behind.new.skip (slice_index_or c.pieces.piece-items c.pieces.piece-index c.piece-item.result).now c.behind.result.now c.behind.ensures.kept c.behind.ensures.left) c.pieces.invariant
