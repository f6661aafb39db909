use Rattle.std.proofs.lemmas.Result.{err_from_is_err_and}
use Rattle.aqe_syntax.proofs.TableReadings.{format_read, format_close_refused, format_using_refused, csv_refused}
use Rattle.aqe_syntax.proofs.tables.format.Goals as goal

pub returns-in_err-close : goal.returns-in_err-close
returns-in_err-close c = let p = err_from_is_err_and c.from_residual.result c.from_residual.ensures.1 in rw (p.1, p.2) (λ r. format_close_refused (c.in_err-close.ensures r))

pub returns-in_err-using : goal.returns-in_err-using
returns-in_err-using c = let p = err_from_is_err_and c.from_residual-in_err-using.result c.from_residual-in_err-using.ensures.1 in rw (p.1, p.2) (λ r. format_using_refused c.in_ok-close.ensures (c.in_err-using.ensures r))

pub returns-in_err-rest : goal.returns-in_err-rest
returns-in_err-rest c = let p = err_from_is_err_and c.from_residual-in_err-rest.result c.from_residual-in_err-rest.ensures.1 in rw (p.1, p.2) (λ r. csv_refused c.in_ok-close.ensures c.in_ok-using.ensures (c.in_err-rest.ensures r))

pub returns : goal.returns
returns c = format_read c.in_ok-close.ensures c.in_ok-using.ensures c.in_ok-rest.ensures
