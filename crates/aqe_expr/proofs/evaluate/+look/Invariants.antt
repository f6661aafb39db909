use Rattle.std.proofs.Common.{◌≡◌, ◌≤◌}
use Rattle.aqe_expr.specs.declared.expr.Operands.{size-Operands}
use Rattle.aqe_expr.specs.declared.expr.CasePairs.{size-CasePairs}
use Rattle.aqe_scalar.specs.Truths.{either}
use Rattle.aqe_expr.specs.Meaning as spec
use Rattle.aqe_expr.proofs.evaluate.+look.Given as goal

abbrev pub invariant-first_equal-pairs : goal.invariant-first_equal-pairs
invariant-first_equal-pairs l = (size-CasePairs l.rest ≤ size-CasePairs l.initial.rest) × (spec.first_equal l.row l.value l.pairs ≡ spec.first_equal l.row l.value l.rest)

abbrev pub invariant-first_present-items : goal.invariant-first_present-items
invariant-first_present-items l = (size-Operands l.rest ≤ size-Operands l.initial.rest) × (spec.first_present l.row l.list ≡ spec.first_present l.row l.rest)

abbrev pub invariant-first_true-pairs : goal.invariant-first_true-pairs
invariant-first_true-pairs l = (size-CasePairs l.rest ≤ size-CasePairs l.initial.rest) × (spec.first_true l.row l.pairs ≡ spec.first_true l.row l.rest)

abbrev pub invariant-in_list-items : goal.invariant-in_list-items
invariant-in_list-items l = (size-Operands l.rest ≤ size-Operands l.initial.rest) × (spec.in_list l.row l.value l.list ≡ either l.found (spec.in_list l.row l.value l.rest))
