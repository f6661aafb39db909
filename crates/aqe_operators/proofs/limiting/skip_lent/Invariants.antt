-- the pieces that were walked are narrowed, and the rest of the rows to pass over stand in those behind
use Rattle.std.proofs.Common.{◌≡◌, ◌++◌, take, drop}
use Rattle.aqe_operators.specs.Lent.{lent_rows}
use Rattle.aqe_operators.proofs.limiting.skip_lent.Given as goal

abbrev pub invariant-pieces : goal.invariant-pieces
invariant-pieces l = lent_rows (take l.piece-index l.piece-items) ++ drop l.left (lent_rows (drop l.piece-index l.piece-items)) ≡ drop l.fn.skip (lent_rows l.fn.pieces.items)
