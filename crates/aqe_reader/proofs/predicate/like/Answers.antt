use Rattle.std.proofs.lemmas.Result.{err_from_is_err_and}
use Rattle.aqe_reader.proofs.Predicates.{like_read, like_refused}
use Rattle.aqe_reader.proofs.predicate.like.Goals as goal

pub returns-in_err-pattern : goal.returns-in_err-pattern
returns-in_err-pattern g c = let p = err_from_is_err_and c.from_residual.result c.from_residual.ensures.1 in rw (p.1, p.2) (λ r. like_refused c.args.negated (c.in_err-pattern.ensures r))

pub returns : goal.returns
returns g c = rw c.in_ok-like_of.ensures (like_read c.args.negated c.in_ok-pattern.ensures)
