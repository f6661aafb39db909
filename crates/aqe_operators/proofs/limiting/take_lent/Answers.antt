use Rattle.std.proofs.Common.{rules, slice_index_or, take}
use Rattle.aqe_operators.specs.Lent.{lent_rows}
use Rattle.aqe_operators.proofs.Narrowed.{narrow_more, take_both}
use Rattle.aqe_operators.proofs.limiting.take_lent.Goals as goal

pub pieces-preserved : goal.pieces-preserved
pieces-preserved c =
    narrow_more take c.pieces.left c.in_front.new.count c.pieces.piece-items c.pieces.piece-index c.piece-item.result c.in_front.result (take c.args.count (lent_rows c.args.pieces.items))
    (search rules)
    (take_both c.pieces.left c.in_front.new.count (slice_index_or c.pieces.piece-items c.pieces.piece-index c.piece-item.result).now c.in_front.result.now c.in_front.ensures.kept c.in_front.ensures.left) c.pieces.invariant
