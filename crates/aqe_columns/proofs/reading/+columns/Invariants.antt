use Rattle.std.proofs.Common.{◌≡◌, ◌≤◌, ◌++◌}
use Rattle.aqe_expr.specs.declared.expr.Operands.{size-Operands}
use Rattle.aqe_expr.specs.declared.expr.CasePairs.{size-CasePairs}
use Rattle.aqe_columns.specs.Reading.{columns_in_list, columns_in_pairs}
use Rattle.aqe_columns.proofs.reading.+columns.Given as goal

abbrev pub invariant-push_operands-items : goal.invariant-push_operands-items
invariant-push_operands-items l = (size-Operands l.rest ≤ size-Operands l.initial.rest) × (l.found.items ++ columns_in_list l.rest ≡ l.initial.found.items ++ columns_in_list l.list)

abbrev pub invariant-push_pairs-pairs : goal.invariant-push_pairs-pairs
invariant-push_pairs-pairs l = (size-CasePairs l.rest ≤ size-CasePairs l.initial.rest) × (l.found.items ++ columns_in_pairs l.rest ≡ l.initial.found.items ++ columns_in_pairs l.pairs)
