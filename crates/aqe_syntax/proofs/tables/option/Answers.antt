use Rattle.aqe_syntax.proofs.TableReadings.{option_read, option_key_refused, option_value_refused}
use Rattle.std.proofs.lemmas.Result.{err_from_is_err_and}
use Rattle.aqe_syntax.proofs.tables.option.Goals as goal

pub returns-in_default : goal.returns-in_default
returns-in_default c = λ r. option_key_refused c.in_default.ensures

pub returns-in_err-value : goal.returns-in_err-value
returns-in_err-value c = let p = err_from_is_err_and c.from_residual.result c.from_residual.ensures.1 in rw (p.1, p.2) (λ r. option_value_refused c.in-Some.ensures c.behind_equal.ensures (c.in_err-value.ensures r))

pub returns : goal.returns
returns c = rw c.in_ok-key.ensures (option_read c.in-Some.ensures c.behind_equal.ensures c.in_ok-value.ensures)
