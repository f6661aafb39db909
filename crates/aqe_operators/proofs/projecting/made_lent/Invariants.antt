-- the rows made of the pieces that were walked
use Rattle.std.proofs.Common.{◌≡◌, take, map}
use Rattle.aqe_logical.specs.Groups as spec
use Rattle.aqe_operators.specs.Lent.{lent_rows}
use Rattle.aqe_operators.proofs.projecting.made_lent.Given as goal

abbrev pub invariant-pieces : goal.invariant-pieces
invariant-pieces l = l.made ≡ map (spec.row_of l.items) (lent_rows (take l.piece-index l.pieces))
