use Rattle.std.proofs.lemmas.Result.{err_from_is_err_and}
use Rattle.aqe_syntax.proofs.TableReadings.{options_first_answer, place_word_refused, location_first_read, location_first_refused}
use Rattle.aqe_syntax.proofs.tables.place.Goals as goal

pub returns-in-Some : goal.returns-in-Some
returns-in-Some c = options_first_answer _ c.in-Some.ensures c.options_place.ensures

pub returns-in_err-text : goal.returns-in_err-text
returns-in_err-text c = let p = err_from_is_err_and c.from_residual.result c.from_residual.ensures.1 in rw (p.1, p.2) (λ r. place_word_refused c.in_default.ensures (c.in_err-text.ensures r))

pub returns-in_err-options : goal.returns-in_err-options
returns-in_err-options c = let p = err_from_is_err_and c.from_residual-in_err-options.result c.from_residual-in_err-options.ensures.1 in rw (p.1, p.2) (λ r. location_first_refused c.in_ok-text.ensures (c.in_err-options.ensures r))

pub returns : goal.returns
returns c = rw c.in_ok-location.ensures (location_first_read c.in_ok-text.ensures c.in_ok-options.ensures)
