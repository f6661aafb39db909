use Rattle.std.proofs.lemmas.Result.{err_from_is_err_and}
use Rattle.aqe_syntax.proofs.TableReadings.{head_at, head_create_refused, head_word_refused, head_name_refused, head_open_refused}
use Rattle.aqe_syntax.proofs.tables.head.Goals as goal

pub returns-in_err-after : goal.returns-in_err-after
returns-in_err-after c = let p = err_from_is_err_and c.from_residual.result c.from_residual.ensures.1 in rw (p.1, p.2) (λ r. head_create_refused (c.in_err-after.ensures r))

pub returns-in_err-behind : goal.returns-in_err-behind
returns-in_err-behind c = let p = err_from_is_err_and c.from_residual-in_err-behind.result c.from_residual-in_err-behind.ensures.1 in rw (p.1, p.2) (λ r. head_word_refused c.in_ok-after.ensures (c.in_err-behind.ensures r))

pub returns-in_default : goal.returns-in_default
returns-in_default c = λ r. head_name_refused c.in_ok-after.ensures c.in_ok-behind.ensures c.in_default.ensures

pub returns-in_err-rest : goal.returns-in_err-rest
returns-in_err-rest c = let p = err_from_is_err_and c.from_residual-in_err-rest.result c.from_residual-in_err-rest.ensures.1 in rw (p.1, p.2) (λ r. head_open_refused c.in_ok-after.ensures c.in_ok-behind.ensures c.in-Some.ensures (c.in_err-rest.ensures r))

pub returns : goal.returns
returns c = head_at c.in_ok-after.ensures c.in_ok-behind.ensures c.in-Some.ensures c.in_ok-rest.ensures
