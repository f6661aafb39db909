use Rattle.std.proofs.lemmas.Result.{err_from_is_err_and}
use Rattle.aqe_reader.proofs.Outcomes.{ok_of, err_of}
use Rattle.aqe_syntax.proofs.PartReadings.{sort_read, sort_refused, sort_nulls_refused}
use Rattle.aqe_syntax.proofs.parts.sort.Goals as goal

pub returns-in_err-value : goal.returns-in_err-value
returns-in_err-value c = let p = err_from_is_err_and c.from_residual.result c.from_residual.ensures.1 in rw (p.1, p.2) (λ r. sort_refused (c.in_err-value.ensures r))

pub returns-in_err-value-2 : goal.returns-in_err-value-2
returns-in_err-value-2 c = let p = err_from_is_err_and c.from_residual-in_err-value-2.result c.from_residual-in_err-value-2.ensures.1 in rw (p.1, p.2) (λ r. sort_nulls_refused c.in_ok-value.ensures c.way-descending.ensures (err_of _ _ c.nulls.ensures c.in_err-value-2.ensures r))

pub returns : goal.returns
returns c =
    let h = c.in_ok-value-2.ensures in
    rw (c.sort_by.ensures, h.0) (sort_read c.in_ok-value.ensures c.way-descending.ensures (ok_of _ _ c.nulls.ensures h.1))
