use Rattle.aqe_partial.proofs.Finishing.{held_partial}
use Rattle.aqe_partial.proofs.laws.held_partial_answers_as_the_aggregate.Goals as goal

pub returns : goal.returns
returns c = held_partial
