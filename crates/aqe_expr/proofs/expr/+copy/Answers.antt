use Rattle.std.proofs.Common.{rules}
use Rattle.aqe_expr.specs.declared.expr.Expr.{the_lemmas}
use Rattle.aqe_expr.proofs.InFront.{in_front_push, pairs_in_front_push}
use Rattle.aqe_expr.proofs.expr.+copy.Goals as goal

pub CasePairs::copy-walk-preserved : goal.CasePairs::copy-walk-preserved
CasePairs::copy-walk-preserved t c = (search (rules, the_lemmas), search (rules, pairs_in_front_push))

pub Operands::copy-walk-preserved : goal.Operands::copy-walk-preserved
Operands::copy-walk-preserved t c = (search (rules, the_lemmas), search (rules, in_front_push))
