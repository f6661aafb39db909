use Rattle.std.proofs.lemmas.Result.{err_from_is_err_and}
use Rattle.aqe_syntax.proofs.TableReadings.{create_read, create_head_refused, create_columns_refused, create_format_refused, create_place_refused}
use Rattle.aqe_syntax.proofs.tables.create.Goals as goal

pub returns-in_err-table : goal.returns-in_err-table
returns-in_err-table c = let p = err_from_is_err_and c.from_residual.result c.from_residual.ensures.1 in rw (p.1, p.2) (λ r. create_head_refused (c.in_err-table.ensures r))

pub returns-in_err-columns : goal.returns-in_err-columns
returns-in_err-columns c = let p = err_from_is_err_and c.from_residual-in_err-columns.result c.from_residual-in_err-columns.ensures.1 in rw (p.1, p.2) (λ r. create_columns_refused c.in_ok-table.ensures (c.in_err-columns.ensures r))

pub returns-in_err-rest : goal.returns-in_err-rest
returns-in_err-rest c = let p = err_from_is_err_and c.from_residual-in_err-rest.result c.from_residual-in_err-rest.ensures.1 in rw (p.1, p.2) (λ r. create_format_refused c.in_ok-table.ensures c.in_ok-columns.ensures (c.in_err-rest.ensures r))

pub returns-in_err-options : goal.returns-in_err-options
returns-in_err-options c = let p = err_from_is_err_and c.from_residual-in_err-options.result c.from_residual-in_err-options.ensures.1 in rw (p.1, p.2) (λ r. create_place_refused c.in_ok-table.ensures c.in_ok-columns.ensures c.in_ok-rest.ensures (c.in_err-options.ensures r))

pub returns : goal.returns
returns c = rw c.in_ok-name.ensures (create_read c.in_ok-table.ensures c.in_ok-columns.ensures c.in_ok-rest.ensures c.in_ok-options.ensures)
