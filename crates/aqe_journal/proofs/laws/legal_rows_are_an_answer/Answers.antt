use Rattle.aqe_journal.proofs.Answers.{rows_answer}
use Rattle.aqe_journal.proofs.laws.legal_rows_are_an_answer.Goals as goal

pub returns : goal.returns
returns c = rows_answer
