use Rattle.std.proofs.lemmas.Result.{err_from_is_err_and}
use Rattle.aqe_reader.proofs.Outcomes.{ok_of, err_of}
use Rattle.aqe_reader.proofs.Predicates.{between_read, between_low, between_cut, between_high}
use Rattle.aqe_reader.proofs.predicate.between.Goals as goal

pub returns-in_err-low : goal.returns-in_err-low
returns-in_err-low g c = let p = err_from_is_err_and c.from_residual.result c.from_residual.ensures.1 in rw (p.1, p.2) (λ r. between_low c.args.negated (c.in_err-low.ensures r))

pub returns-in_err-low-2 : goal.returns-in_err-low-2
returns-in_err-low-2 g c = let p = err_from_is_err_and c.from_residual-in_err-low-2.result c.from_residual-in_err-low-2.ensures.1 in rw (p.1, p.2) (λ r. between_cut c.args.negated c.in_ok-low.ensures (err_of _ _ c.expect.ensures c.in_err-low-2.ensures r))

pub returns-in_err-low-3 : goal.returns-in_err-low-3
returns-in_err-low-3 g c = let p = err_from_is_err_and c.from_residual-in_err-low-3.result c.from_residual-in_err-low-3.ensures.1 in rw (p.1, p.2) (λ r. between_high c.args.negated c.in_ok-low.ensures (ok_of _ _ c.expect.ensures c.in_ok-low-2.ensures.1) (err_of _ _ c.comparison-2.ensures c.in_err-low-3.ensures r))

pub returns : goal.returns
returns g c =
    let h = c.in_ok-low-2.ensures in
    let i = c.in_ok-low-3.ensures in
    rw (c.in_ok-between_of.ensures, i.0, h.0) (between_read c.args.negated c.in_ok-low.ensures (ok_of _ _ c.expect.ensures h.1) (ok_of _ _ c.comparison-2.ensures i.1))
