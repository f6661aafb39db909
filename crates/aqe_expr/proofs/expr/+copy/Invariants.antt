use Rattle.std.proofs.Common.{◌≡◌, ◌≤◌}
use Rattle.aqe_expr.specs.declared.expr.Operands.{size-Operands}
use Rattle.aqe_expr.specs.declared.expr.CasePairs.{size-CasePairs}
use Rattle.aqe_expr.specs.Chains.{in_front, pairs_in_front}
use Rattle.aqe_expr.proofs.expr.+copy.Given as goal

abbrev pub invariant-CasePairs::copy-walk : goal.invariant-CasePairs::copy-walk
invariant-CasePairs::copy-walk l = (size-CasePairs l.rest ≤ size-CasePairs l.initial.rest) × (pairs_in_front l.items.items l.rest ≡ l.self)

abbrev pub invariant-Operands::copy-walk : goal.invariant-Operands::copy-walk
invariant-Operands::copy-walk l = (size-Operands l.rest ≤ size-Operands l.initial.rest) × (in_front l.items.items l.rest ≡ l.self)
