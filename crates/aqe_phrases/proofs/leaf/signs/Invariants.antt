use Rattle.std.proofs.Common.{drop}
use Rattle.aqe_phrases.proofs.Leaves.{SignsLeft}
use Rattle.aqe_phrases.proofs.leaf.signs.Given as goal

abbrev pub invariant-signs : goal.invariant-signs
invariant-signs l = SignsLeft l.signs (drop l.sign-index l.signs) l.initial.out.items l.out.items
