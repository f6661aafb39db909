use Rattle.aqe_stages.proofs.Later.{parts_stay}
use Rattle.aqe_stages.proofs.laws.later_stages_keep_parts.Goals as goal

pub returns : goal.returns
returns c = parts_stay
