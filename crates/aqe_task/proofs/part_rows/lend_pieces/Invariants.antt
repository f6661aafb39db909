use Rattle.std.proofs.Common.{◌≡◌, take}
use Rattle.aqe_operators.specs.Lent.{lent_rows}
use Rattle.aqe_probe.specs.Joinable.{rows_seen}
use Rattle.aqe_task.proofs.part_rows.lend_pieces.Given as goal

abbrev pub invariant-pieces : goal.invariant-pieces
invariant-pieces l = rows_seen l.lent.items ≡ lent_rows (take l.piece-index l.pieces)
