use Rattle.aqe_fit_laws.proofs.Together.{placed_groups}
use Rattle.aqe_fit_laws.proofs.laws.groups_of_placed_parts.Goals as goal

pub returns : goal.returns
returns c = placed_groups
