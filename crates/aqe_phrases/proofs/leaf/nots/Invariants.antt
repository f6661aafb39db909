use Rattle.aqe_phrases.specs.Written.{Adds, nots_before}
use Rattle.aqe_phrases.proofs.leaf.nots.Given as goal

abbrev pub invariant-nots : goal.invariant-nots
invariant-nots l = Adds (nots_before l._turn) l.initial.out.items l.out.items
