use Rattle.std.proofs.Common.{◌≡◌, ◌≤◌}
use Rattle.aqe_expr.specs.declared.expr.Operands.{size-Operands}
use Rattle.aqe_expr.specs.declared.expr.CasePairs.{size-CasePairs}
use Rattle.aqe_expr.specs.Chains.{in_front, pairs_in_front}
use Rattle.aqe_columns.specs.Replacing.{replaced_list, replaced_pairs}
use Rattle.aqe_columns.proofs.replacing.+replacing.Given as goal

abbrev pub invariant-replaced_list-walk : goal.invariant-replaced_list-walk
invariant-replaced_list-walk l = (size-Operands l.rest ≤ size-Operands l.initial.rest) × (in_front l.made.items (replaced_list l.items l.rest) ≡ replaced_list l.items l.list)

abbrev pub invariant-replaced_pairs-walk : goal.invariant-replaced_pairs-walk
invariant-replaced_pairs-walk l = (size-CasePairs l.rest ≤ size-CasePairs l.initial.rest) × (pairs_in_front l.made.items (replaced_pairs l.items l.rest) ≡ replaced_pairs l.items l.pairs)
