use Rattle.std.proofs.Common.{◌≡◌, take}
use Rattle.aqe_operators.specs.Lent.{lent_rows}
use Rattle.aqe_task.proofs.part_rows.copied.Given as goal

abbrev pub invariant-pieces : goal.invariant-pieces
invariant-pieces l = l.own ≡ lent_rows (take l.piece-index l.pieces)
