-- the calls that were walked have the row, and the others are to have it
use Rattle.std.proofs.Common.{◌≡◌, ◌++◌, take, drop, length}
use Rattle.aqe_operators.specs.Gathering.{stepped}
use Rattle.aqe_operators.proofs.tally.step_values.Given as goal

abbrev pub invariant-calls : goal.invariant-calls
invariant-calls l = (length l.values ≡ length l.calls)
    × (stepped l.form 0 l.calls l.fn.values l.row ≡ take l.i l.values ++ stepped l.form l.i (drop l.i l.calls) (drop l.i l.values) l.row)
