use Rattle.std.proofs.Common.{◌≤◌}
use Rattle.aqe_expr.specs.declared.expr.Operands.{size-Operands}
use Rattle.aqe_expr.specs.declared.expr.CasePairs.{size-CasePairs}
use Rattle.aqe_expr.proofs.+expr.Given as goal

abbrev pub invariant-expr::Operands::drop-loop-self : goal.invariant-expr::Operands::drop-loop-self
invariant-expr::Operands::drop-loop-self l = size-Operands l.self ≤ size-Operands l.initial.self

abbrev pub invariant-expr::CasePairs::drop-loop-self : goal.invariant-expr::CasePairs::drop-loop-self
invariant-expr::CasePairs::drop-loop-self l = size-CasePairs l.self ≤ size-CasePairs l.initial.self
