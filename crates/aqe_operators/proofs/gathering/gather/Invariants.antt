-- the groups of the pieces that were walked
use Rattle.std.proofs.Common.{◌≡◌, take}
use Rattle.aqe_operators.specs.Lent.{lent_rows}
use Rattle.aqe_operators.specs.Gathering.{gathered}
use Rattle.aqe_operators.proofs.gathering.gather.Given as goal

abbrev pub invariant-pieces : goal.invariant-pieces
invariant-pieces l = l.groups.entries ≡ gathered l.form l.calls (lent_rows (take l.piece-index l.pieces))
