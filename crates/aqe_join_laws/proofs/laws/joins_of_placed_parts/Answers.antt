use Rattle.aqe_join_laws.proofs.Parts.{of_placed_parts}
use Rattle.aqe_join_laws.proofs.laws.joins_of_placed_parts.Goals as goal

pub returns : goal.returns
returns c = of_placed_parts
