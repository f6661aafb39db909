use Rattle.std.proofs.Common.{arith}
use Rattle.std.proofs.lemmas.List.{length-take}
use Rattle.aqe_store.proofs.Pieces.{takes-more}
use Rattle.aqe_store.proofs.read.take_all.Goals as goal

pub returns-in_err-take_piece-clause-within : goal.returns-in_err-take_piece-clause-within
returns-in_err-take_piece-clause-within g c =
    takes-more _ _ _ _ _ _ c.pieces.invariant.1.came.moves c.take_piece.ensures.within
    (rw length-take (omega (arith, c.room_for-room.ensures.fits, c.len-in-pieces.ensures)))
