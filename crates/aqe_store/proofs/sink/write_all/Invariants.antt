use Rattle.std.proofs.Common.{◌≡◌, ◌≤◌, ◌-◌, length, take}
use Rattle.std.specs.Io.KnownBytes.{Appends}
use Rattle.aqe_store.proofs.sink.write_all.Given as goal

-- the bytes up to this place were taken
abbrev pub invariant-pieces : goal.invariant-pieces
invariant-pieces g l =
    (l.at ≤ length l.bytes)
    × Appends (g.O.Sink.taken l.fn.sink) (g.O.Sink.taken l.sink) (take l.at l.bytes)
    × (g.O.Sink.faults l.sink ≡ g.O.Sink.faults l.fn.sink)

abbrev pub decreases-pieces : goal.decreases-pieces
decreases-pieces g l = length l.bytes - l.at
