use Rattle.std.proofs.Common.{◌≡◌, vec_len}
use Rattle.aqe_expr.specs.declared.expr.CasePairs.TheVariants.{End}
use Rattle.aqe_expr.specs.Chains.{pairs_in_front}
use Rattle.aqe_expr.proofs.expr.CasePairs.from_vec.Given as goal

abbrev pub invariant-pairs : goal.invariant-pairs
invariant-pairs l = pairs_in_front l.items.items l.chain ≡ pairs_in_front l.initial.items.items End

abbrev pub decreases-pairs : goal.decreases-pairs
decreases-pairs l = vec_len l.items
