use Rattle.aqe_local_read.proofs.Covering.{cover}
use Rattle.aqe_local_read.proofs.laws.local_rectangles_cover.Goals as goal

pub returns : goal.returns
returns c = cover
