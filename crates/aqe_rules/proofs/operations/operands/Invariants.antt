use Rattle.std.proofs.Common.{◌≡◌, vec_len}
use Rattle.aqe_rules.specs.Operations.{operands}
use Rattle.aqe_rules.proofs.Comparing.{behind}
use Rattle.aqe_rules.proofs.operations.operands.Given as goal

abbrev pub invariant-all : goal.invariant-all
invariant-all l = behind l.kind l.all.items l.chain ≡ operands l.kind l.initial.all.items

abbrev pub decreases-all : goal.decreases-all
decreases-all l = vec_len l.all
