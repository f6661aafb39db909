use Rattle.std.proofs.Common.{◌≡◌, vec_len}
use Rattle.aqe_expr.specs.declared.expr.Operands.TheVariants.{End}
use Rattle.aqe_expr.specs.Chains.{in_front}
use Rattle.aqe_expr.proofs.expr.Operands.from_vec.Given as goal

abbrev pub invariant-items : goal.invariant-items
invariant-items l = in_front l.items.items l.chain ≡ in_front l.initial.items.items End

abbrev pub decreases-items : goal.decreases-items
decreases-items l = vec_len l.items
