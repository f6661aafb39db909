use Rattle.std.proofs.Common.{◌≡◌, ◌≤◌}
use Rattle.aqe_expr.specs.declared.expr.Operands.{size-Operands}
use Rattle.aqe_expr.specs.declared.expr.CasePairs.{size-CasePairs}
use Rattle.aqe_rules.specs.Equality.{same_list, same_pairs}
use Rattle.aqe_same.proofs.exprs.+same.Given as goal

abbrev pub invariant-same_list-items : goal.invariant-same_list-items
invariant-same_list-items l = (size-Operands l.left ≤ size-Operands l.initial.left) × (same_list l.left l.right ≡ same_list l.a l.b)

abbrev pub invariant-same_pairs-pairs : goal.invariant-same_pairs-pairs
invariant-same_pairs-pairs l = (size-CasePairs l.left ≤ size-CasePairs l.initial.left) × (same_pairs l.left l.right ≡ same_pairs l.a l.b)
