use Rattle.aqe_partial.proofs.Finishing.{finishing}
use Rattle.aqe_partial.proofs.laws.finishing_parts_is_grouping.Goals as goal

pub returns : goal.returns
returns c = finishing
