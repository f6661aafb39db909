use Rattle.aqe_stages.proofs.Made.{made_keeps}
use Rattle.aqe_stages.proofs.laws.made_stages_keep_parts.Goals as goal

pub returns : goal.returns
returns c = made_keeps
