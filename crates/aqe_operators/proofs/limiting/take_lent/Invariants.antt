-- the pieces that were walked are narrowed, and the rows that may still be kept stand in those behind
use Rattle.std.proofs.Common.{◌≡◌, ◌++◌, take, drop}
use Rattle.aqe_operators.specs.Lent.{lent_rows}
use Rattle.aqe_operators.proofs.limiting.take_lent.Given as goal

abbrev pub invariant-pieces : goal.invariant-pieces
invariant-pieces l = lent_rows (take l.piece-index l.piece-items) ++ take l.left (lent_rows (drop l.piece-index l.piece-items)) ≡ take l.fn.count (lent_rows l.fn.pieces.items)
