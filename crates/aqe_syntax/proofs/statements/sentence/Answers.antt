use Rattle.aqe_syntax.specs.Sentences.{table_sentence, query_sentence}
use Rattle.aqe_syntax.proofs.SentenceReadings.{table_refused, query_sentence_refused}
use Rattle.std.proofs.lemmas.Result.{err_from_is_err_and}
use Rattle.aqe_syntax.proofs.statements.sentence.Goals as goal

pub returns-in-Some : goal.returns-in-Some
returns-in-Some c = table_sentence c.in_ok-form.ensures

pub returns-in_err-form : goal.returns-in_err-form
returns-in_err-form c = let p = err_from_is_err_and c.from_residual.result c.from_residual.ensures.1 in rw (p.1, p.2) (λ r. table_refused c.in-Some.ensures (c.in_err-form.ensures r))

pub returns-in_err-tree : goal.returns-in_err-tree
returns-in_err-tree c = let p = err_from_is_err_and c.from_residual-in_err-tree.result c.from_residual-in_err-tree.ensures.1 in rw (p.1, p.2) (λ r. query_sentence_refused c.in_default.ensures (c.in_err-tree.ensures r))

pub returns : goal.returns
returns c = query_sentence c.in_ok-tree.ensures
