-- the rows kept of the pieces that were walked
use Rattle.std.proofs.Common.{◌≡◌, take, filter}
use Rattle.aqe_expr.specs.Meaning.{holds}
use Rattle.aqe_operators.specs.Lent.{lent_rows}
use Rattle.aqe_operators.proofs.filtering.kept_lent.Given as goal

abbrev pub invariant-pieces : goal.invariant-pieces
invariant-pieces l = l.kept ≡ filter (holds l.cond) (lent_rows (take l.piece-index l.pieces))
