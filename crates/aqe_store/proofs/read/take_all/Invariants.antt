use Rattle.std.proofs.Common.{◌≡◌, ◌+◌, ◌-◌, length, vec_len}
use Rattle.aqe_store.specs.Reading.{IsReading}
use Rattle.aqe_store.proofs.read.take_all.Given as goal

abbrev pub invariant-pieces : goal.invariant-pieces
invariant-pieces g l =
    (length l.piece ≡ 65536)
    × IsReading (g.S.Store.files l.fn.store) (g.S.Store.files l.store) (g.S.Store.opened l.fn.store) (g.S.Store.opened l.store) l.bytes.items l.max
    × (g.S.Store.faults l.store ≡ g.S.Store.faults l.fn.store)
    × (g.S.Store.misses l.store ≡ g.S.Store.misses l.fn.store)

abbrev pub decreases-pieces : goal.decreases-pieces
decreases-pieces g l = l.max + 1 - vec_len l.bytes
