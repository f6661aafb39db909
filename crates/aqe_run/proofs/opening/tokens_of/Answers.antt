use Rattle.aqe_run.proofs.OpeningFacts.{lex_refused}
use Rattle.aqe_run.proofs.opening.tokens_of.Goals as goal

pub returns-in-Err-clause-refused : goal.returns-in-Err-clause-refused
returns-in-Err-clause-refused c = lex_refused c.args.source.now c.in-Err.fault c.lex_status.result c.in-Err.ensures.cause c.lex_status.ensures
