use Rattle.aqe_columns.proofs.Values.{keeps_the_value}
use Rattle.aqe_columns.proofs.laws.replacement_keeps_the_value.Goals as goal

pub returns : goal.returns
returns c = keeps_the_value
