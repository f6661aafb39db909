use Rattle.std.proofs.lemmas.Result.{err_from_is_err_and}
use Rattle.aqe_syntax.proofs.TableReadings.{location_read, location_word_refused, location_string_refused}
use Rattle.aqe_syntax.proofs.tables.location_at.Goals as goal

pub returns-in_err-after : goal.returns-in_err-after
returns-in_err-after c = let p = err_from_is_err_and c.from_residual.result c.from_residual.ensures.1 in rw (p.1, p.2) (λ r. location_word_refused (c.in_err-after.ensures r))

pub returns-in_default : goal.returns-in_default
returns-in_default c = λ r. location_string_refused c.in_ok-after.ensures c.in_default.ensures

pub returns : goal.returns
returns c = location_read c.in_ok-after.ensures c.in-Some.ensures
