use Rattle.std.proofs.lemmas.Result.{err_from_is_err_and}
use Rattle.aqe_reader.proofs.Outcomes.{ok_of, err_of}
use Rattle.aqe_reader.proofs.Operands.{paren_read, paren_unclosed}
use Rattle.aqe_reader.proofs.primary.paren.Goals as goal

pub returns-in_err-value-2 : goal.returns-in_err-value-2
returns-in_err-value-2 g c = let p = err_from_is_err_and c.from_residual-in_err-value-2.result c.from_residual-in_err-value-2.ensures.1 in rw (p.1, p.2) (λ r. paren_unclosed c.in_ok-value.ensures (err_of _ _ c.expect.ensures c.in_err-value-2.ensures r))

pub returns : goal.returns
returns g c = let h = c.in_ok-value-2.ensures in rw h.0 (paren_read c.in_ok-value.ensures (ok_of _ _ c.expect.ensures h.1))
