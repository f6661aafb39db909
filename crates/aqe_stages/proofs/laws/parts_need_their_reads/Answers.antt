use Rattle.aqe_stages.proofs.Needed.{part_alike}
use Rattle.aqe_stages.proofs.laws.parts_need_their_reads.Goals as goal

pub returns : goal.returns
returns c = part_alike
