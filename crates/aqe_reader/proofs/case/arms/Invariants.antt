use Rattle.std.proofs.Common.{◌∷◌, ◌<◌, length}
use Rattle.aqe_trees.specs.declared.terminal.Key.TheVariants as k
use Rattle.aqe_trees.specs.declared.terminal.Terminal.TheVariants.{Fixed}
use Rattle.aqe_reader.proofs.Cases.{ArmsLeft}
use Rattle.aqe_reader.proofs.case.arms.Given as goal

abbrev pub invariant-more : goal.invariant-more
invariant-more g l = ArmsLeft (Fixed k.When ∷ l.terminals) l.rest l.arms × (length l.rest < length l.terminals)

abbrev pub decreases-more : goal.decreases-more
decreases-more g l = length l.rest
