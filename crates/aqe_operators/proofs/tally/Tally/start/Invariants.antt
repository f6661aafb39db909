-- the calls that were walked are begun
use Rattle.std.proofs.Common.{◌≡◌, take}
use Rattle.aqe_operators.specs.Gathering.{started}
use Rattle.aqe_operators.proofs.tally.Tally.start.Given as goal

abbrev pub invariant-calls : goal.invariant-calls
invariant-calls l = l.values.items ≡ started (take l.call-index l.calls)
