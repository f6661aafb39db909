use Rattle.aqe_syntax.proofs.SentenceReadings.{whole_read, whole_refused, whole_left}
use Rattle.aqe_syntax.proofs.TableReadings.{emptied, not_emptied}
use Rattle.std.proofs.lemmas.Result.{err_from_is_err_and}
use Rattle.aqe_syntax.proofs.statements.whole_query.Goals as goal

pub returns-in_err-tree : goal.returns-in_err-tree
returns-in_err-tree c = let p = err_from_is_err_and c.from_residual.result c.from_residual.ensures.1 in rw (p.1, p.2) (λ r. whole_refused (c.in_err-tree.ensures r))

pub returns-then-is_empty : goal.returns-then-is_empty
returns-then-is_empty c = whole_read c.in_ok-tree.ensures (emptied _ c.is_empty.ensures c.if-is_empty.true)

pub returns-else-is_empty : goal.returns-else-is_empty
returns-else-is_empty c = λ r. whole_left c.in_ok-tree.ensures (not_emptied _ c.is_empty.ensures c.if-is_empty.false)
