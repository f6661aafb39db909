use Rattle.aqe_syntax.proofs.PartReadings.{no_clause_read, clause_read, clause_refused}
use Rattle.std.proofs.lemmas.Result.{err_from_is_err_and}
use Rattle.aqe_syntax.proofs.parts.clause.Goals as goal

pub returns-in_default : goal.returns-in_default
returns-in_default c = no_clause_read c.in_default.ensures

pub returns-in_err-value : goal.returns-in_err-value
returns-in_err-value c = let p = err_from_is_err_and c.from_residual.result c.from_residual.ensures.1 in rw (p.1, p.2) (λ r. clause_refused c.in-Some.ensures c.requires (c.in_err-value.ensures r))

pub returns : goal.returns
returns c = clause_read c.in-Some.ensures c.requires c.in_ok-value.ensures
