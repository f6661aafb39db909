use Rattle.aqe_type_laws.proofs.AnswersTyped.{answers_fit}
use Rattle.aqe_type_laws.proofs.laws.answers_fit_the_columns.Goals as goal

pub returns : goal.returns
returns c = answers_fit
