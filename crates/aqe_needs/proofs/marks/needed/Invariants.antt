use Rattle.std.proofs.Common.{length}
use Rattle.aqe_needs.specs.Flags.{marked}
use Rattle.aqe_needs.specs.Noted.{stages_of}
use Rattle.aqe_needs.proofs.Marking.{AreMarked}
use Rattle.aqe_needs.proofs.marks.needed.Given as goal

abbrev pub invariant-stages : goal.invariant-stages
invariant-stages l = AreMarked (marked l.whole) l.plan (stages_of l.stages) (length l.flags) l.flags l.marks.items

abbrev pub decreases-stages : goal.decreases-stages
decreases-stages l = length l.flags
