use Rattle.std.proofs.lemmas.Result.{err_from_is_err_and}
use Rattle.aqe_reader.proofs.Outcomes.{ok_of, err_of}
use Rattle.aqe_reader.proofs.RunFacts.{sign_read, sign_refused}
use Rattle.aqe_reader.proofs.runs.sign.Goals as goal

pub returns-in_err-signs-2 : goal.returns-in_err-signs-2
returns-in_err-signs-2 g c = let p = err_from_is_err_and c.from_residual-in_err-signs-2.result c.from_residual-in_err-signs-2.ensures.1 in rw (p.1, p.2) (λ r. sign_refused c.in_ok-signs.ensures.0 c.in_ok-signs.ensures.1 (err_of _ _ c.primary.ensures c.in_err-signs-2.ensures r))

pub returns : goal.returns
returns g c = let h = c.in_ok-signs-2.ensures in rw (c.new.ensures, h.0) (sign_read c.in_ok-signs.ensures.0 c.in_ok-signs.ensures.1 (ok_of _ _ c.primary.ensures h.1))
