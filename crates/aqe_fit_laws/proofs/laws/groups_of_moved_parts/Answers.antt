use Rattle.aqe_fit_laws.proofs.Together.{moved_groups}
use Rattle.aqe_fit_laws.proofs.laws.groups_of_moved_parts.Goals as goal

pub returns : goal.returns
returns c = moved_groups
