-- the makings before those that are left were made
use Rattle.aqe_steps.proofs.Settling.{SettledTo}
use Rattle.aqe_steps.proofs.settle.settle.Given as goal

abbrev pub invariant-makings : goal.invariant-makings
invariant-makings l = SettledTo l.fn.run l.run l.making-iterator.rest.items
