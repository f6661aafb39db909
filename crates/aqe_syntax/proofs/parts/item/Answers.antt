use Rattle.std.proofs.lemmas.Result.{err_from_is_err_and}
use Rattle.aqe_reader.proofs.Outcomes.{ok_of, err_of}
use Rattle.aqe_syntax.proofs.PartReadings.{all_columns_read, all_columns_of_read, one_column_read, item_refused, item_alias_refused}
use Rattle.aqe_syntax.proofs.parts.item.Goals as goal

pub returns-in-Some : goal.returns-in-Some
returns-in-Some c = all_columns_read c.in-Some.ensures

pub returns-in-Some-name_star : goal.returns-in-Some-name_star
returns-in-Some-name_star c = rw c.in_ok-copied.ensures (all_columns_of_read c.in-Some-name_star.ensures)

pub returns-in_err-value : goal.returns-in_err-value
returns-in_err-value c = let p = err_from_is_err_and c.from_residual-in_err-value.result c.from_residual-in_err-value.ensures.1 in rw (p.1, p.2) (λ r. item_refused c.in_default.ensures c.in_default-name_star.ensures (c.in_err-value.ensures r))

pub returns-in_err-value-2 : goal.returns-in_err-value-2
returns-in_err-value-2 c = let p = err_from_is_err_and c.from_residual-in_err-value-2.result c.from_residual-in_err-value-2.ensures.1 in rw (p.1, p.2) (λ r. item_alias_refused c.in_default.ensures c.in_default-name_star.ensures c.in_ok-value.ensures (err_of _ _ c.alias.ensures c.in_err-value-2.ensures r))

pub returns : goal.returns
returns c =
    let h = c.in_ok-value-2.ensures in
    rw (c.one.ensures, h.0) (one_column_read c.in_default.ensures c.in_default-name_star.ensures c.in_ok-value.ensures (ok_of _ _ c.alias.ensures h.1))
