use Rattle.std.proofs.lemmas.Result.{err_from_is_err_and}
use Rattle.aqe_reader.proofs.Outcomes.{ok_of, err_of}
use Rattle.aqe_reader.proofs.Predicates.{predicate_read, predicate_refused, predicate_untested}
use Rattle.aqe_reader.proofs.predicate.predicate.Goals as goal

pub returns-in_err-value : goal.returns-in_err-value
returns-in_err-value g c = let p = err_from_is_err_and c.from_residual.result c.from_residual.ensures.1 in rw (p.1, p.2) (λ r. predicate_refused (c.in_err-value.ensures r))

pub returns-in_err-value-2 : goal.returns-in_err-value-2
returns-in_err-value-2 g c = let p = err_from_is_err_and c.from_residual-in_err-value-2.result c.from_residual-in_err-value-2.ensures.1 in rw (p.1, p.2) (λ r. predicate_untested c.in_ok-value.ensures (err_of _ _ c.test.ensures c.in_err-value-2.ensures r))

pub returns : goal.returns
returns g c = let h = c.in_ok-value-2.ensures in rw (c.in_ok-predicate_of.ensures, h.0) (predicate_read c.in_ok-value.ensures (ok_of _ _ c.test.ensures h.1))
