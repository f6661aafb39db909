use Rattle.aqe_stages.proofs.Made.{made_reads_below}
use Rattle.aqe_stages.proofs.laws.made_stages_read_below.Goals as goal

pub returns : goal.returns
returns c = made_reads_below
