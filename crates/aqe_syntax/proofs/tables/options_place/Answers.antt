use Rattle.std.proofs.lemmas.Result.{err_from_is_err_and}
use Rattle.aqe_syntax.proofs.TableReadings.{options_place_read, first_open_refused, first_options_refused, last_refused}
use Rattle.aqe_syntax.proofs.tables.options_place.Goals as goal

pub returns-in_err-inside : goal.returns-in_err-inside
returns-in_err-inside c = let p = err_from_is_err_and c.from_residual.result c.from_residual.ensures.1 in rw (p.1, p.2) (λ r. first_open_refused (c.in_err-inside.ensures r))

pub returns-in_err-options : goal.returns-in_err-options
returns-in_err-options c = let p = err_from_is_err_and c.from_residual-in_err-options.result c.from_residual-in_err-options.ensures.1 in rw (p.1, p.2) (λ r. first_options_refused c.in_ok-inside.ensures (c.in_err-options.ensures r))

pub returns-in_err-text : goal.returns-in_err-text
returns-in_err-text c = let p = err_from_is_err_and c.from_residual-in_err-text.result c.from_residual-in_err-text.ensures.1 in rw (p.1, p.2) (λ r. last_refused c.in_ok-inside.ensures c.in_ok-options.ensures (c.in_err-text.ensures r))

pub returns : goal.returns
returns c = rw c.in_ok-location.ensures (options_place_read c.in_ok-inside.ensures c.in_ok-options.ensures c.in_ok-text.ensures)
